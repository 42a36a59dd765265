use Rattle.std.proofs.Common.{◌≡◌, [], take, drop}
use Rattle.mrcpsp.specs.Project.{are_successors}
use Rattle.mrcpsp.proofs.limits.may_follow.Given as goal

abbrev pub invariant-loop-i : goal.invariant-loop-i
invariant-loop-i l = are_successors l.activities l.number (take l.i l.successors) (drop l.i l.successors) ≡ are_successors l.activities l.number [] l.successors
