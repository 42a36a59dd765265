use Rattle.std.proofs.Common.{◌≡◌, ◌≤◌, ◌*◌}
use Rattle.farm_core.proofs.PursesLemmas.{granted_below}
use Rattle.farm_core.proofs.purses.granted_to.Given as goal

abbrev pub invariant-loop-tenant : goal.invariant-loop-tenant
invariant-loop-tenant l = record {
  exact : l.granted ≡ granted_below l.lines l.purse l.tenant;
  most : l.granted ≤ l.tenant * 1000000000000;
}
