use Rattle.std.proofs.Common.{ℕ, List, map, ◌<◌, ◌++◌, [], ◌∷◌, ap, ◌∙◌, sym, arith}
use Rattle.std.specs.List.{range_with_len}
use Rattle.tenant_book.specs.Book as ledger
use Rattle.tenant_book.specs.Book.{BookData}
use Rattle.farm_core.specs.World.{purses_in}
use Rattle.farm_core.specs.Config.{member_lines, granted_by}
use Rattle.farm_core.proofs.FarmLemmas.{list_more, granted_within}
use Rattle.farm_core.proofs.farm.open_books.Goals as goal

pub new-requires : goal.new-requires
new-requires c =
    let l : c.loop-purse.purse < purses_in c.args.config.now = omega (arith, c.loop-purse-test.true, c.purses-purse-end.ensures.exact) in
    omega (arith, c.granted.ensures, granted_within c.args.config.now c.loop-purse.purse c.tenants.ensures.config l)

pub loop-purse-preserved : goal.loop-purse-preserved
loop-purse-preserved c =
    let f : ℕ → BookData = λ p. ledger.opened (granted_by (member_lines c.args.config.now.tenants p)) in
    let book = c.new.ensures ∙ ap ledger.opened c.granted.ensures in
    c.in_ok-push.ensures.items ∙ ap (λ (bs : List BookData). bs ++ c.new.result ∷ []) c.loop-purse.invariant
    ∙ ap (λ (b : BookData). map f (range_with_len 0 c.loop-purse.purse) ++ b ∷ []) book
    ∙ sym (list_more f c.loop-purse.purse)
