use Rattle.std.proofs.Common.{◌≡◌, ◌≤◌, true, nat_le, arith, subst, ◌∙◌}
use Rattle.std.proofs.lemmas.Bool.{le-leb}
use Rattle.farm_core.specs.Config.{purse_names, member_lines, granted_by}
use Rattle.farm_core.specs.Purses.{purses}
use Rattle.farm_core.proofs.PursesLemmas.{all_later}
use Rattle.farm_core.proofs.purses.are_purses.Goals as goal

pub loop-purse-preserved : goal.loop-purse-preserved
loop-purse-preserved c =
    let lines = c.args.lines.now in
    let within : nat_le (granted_by (member_lines lines c.loop-purse.purse)) 1000000000000 ≡ true = le-leb (granted_by (member_lines lines c.loop-purse.purse)) 1000000000000 (subst (λ n. n ≤ 1000000000000) c.granted_to.ensures.exact c.if-granted_to-gt-MOST_QUANTA.false) in
    c.loop-purse.invariant ∙ all_later (λ p. nat_le (granted_by (member_lines lines p)) 1000000000000) (purses (purse_names lines)) c.loop-purse.purse (omega arith) within
