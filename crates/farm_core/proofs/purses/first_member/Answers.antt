use Rattle.std.proofs.Common.{◌≡◌, false, arith, ◌∙◌}
use Rattle.farm_core.specs.Config.{purse_names}
use Rattle.farm_core.specs.Purses.{purse_name, is_shared}
use Rattle.farm_core.proofs.PursesLemmas.{names_at, first_later}
use Rattle.farm_core.proofs.purses.first_member.Goals as goal

pub loop-other-preserved : goal.loop-other-preserved
loop-other-preserved c =
    let names = purse_names c.args.lines.now in
    let same = names_at c.args.lines.now c.loop-other.other c.args.tenant c.index-lines-other.result c.index-lines-tenant.result (omega arith) (omega arith) in
    let apart : is_shared (purse_name names c.loop-other.other) (purse_name names c.args.tenant) ≡ false = cc in
    c.loop-other.invariant
    ∙ first_later (λ u. is_shared (purse_name names u) (purse_name names c.args.tenant)) c.args.tenant c.loop-other.other (omega arith) apart
