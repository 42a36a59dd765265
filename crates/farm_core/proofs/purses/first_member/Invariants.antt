use Rattle.std.proofs.Common.{◌≡◌}
use Rattle.farm_core.proofs.PursesLemmas.{first_shared}
use Rattle.farm_core.proofs.purses.first_member.Given as goal

-- none of the tenants so far shares the purse
abbrev pub invariant-loop-other : goal.invariant-loop-other
invariant-loop-other l = first_shared l.lines l.tenant 0 ≡ first_shared l.lines l.tenant l.other
