use Rattle.std.proofs.Common.{ℕ, List, ◌++◌, [], ◌∷◌, ap, ◌∙◌, sym}
use Rattle.std.specs.List.{range_with_len}
use Rattle.std.proofs.Common.{map}
use Rattle.farm_core.specs.World.{purse_in}
use Rattle.farm_core.proofs.FarmLemmas.{list_more}
use Rattle.farm_core.proofs.farm.number_purses.Goals as goal

pub loop-tenant-preserved : goal.loop-tenant-preserved
loop-tenant-preserved c =
    let f : ℕ → ℕ = purse_in c.args.config.now in
    c.in_ok-push.ensures.items ∙ ap (λ (ns : List ℕ). ns ++ c.purse_of.result ∷ []) c.loop-tenant.invariant
    ∙ ap (λ (n : ℕ). map f (range_with_len 0 c.loop-tenant.tenant) ++ n ∷ []) c.purse_of.ensures.exact
    ∙ sym (list_more f c.loop-tenant.tenant)
