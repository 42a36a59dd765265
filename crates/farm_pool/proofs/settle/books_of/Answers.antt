use Rattle.std.proofs.Common.{◌<◌, List, ◌∷◌, [], ◌++◌, length, map, sym, ap, ◌∙◌, arith}
use Rattle.std.proofs.lemmas.List.{take_more_set}
use Rattle.std.specs.List.{range_with_len}
use Rattle.tenant_book.specs.Book.{BookData}
use Rattle.farm_core.specs.World.{purse}
use Rattle.farm_core.specs.Tenant.{ledger_of}
use Rattle.farm_pool.proofs.SettleLemmas.{books_more}
use Rattle.farm_pool.proofs.settle.books_of.Goals as goal

pub loop-purse-preserved : goal.loop-purse-preserved
loop-purse-preserved g c =
    let p = c.loop-purse.purse in
    let few : p < length c.loop-purse.books = omega arith in
    take_more_set c.loop-purse.books p c.purse_book.result few
    ∙ ap (λ (xs : List BookData). xs ++ c.purse_book.result ∷ []) c.loop-purse.invariant
    ∙ ap (λ (b : BookData). map (λ i. ledger_of (purse i c.args.farm.now)) (range_with_len 0 p) ++ b ∷ []) c.purse_book.ensures
    ∙ sym (books_more c.args.farm.now p)
