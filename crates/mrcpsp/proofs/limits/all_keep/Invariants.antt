use Rattle.std.proofs.Common.{◌≡◌, ◌+◌, length, drop}
use Rattle.mrcpsp.specs.Project.{are_activities}
use Rattle.mrcpsp.proofs.limits.all_keep.Given as goal

abbrev pub invariant-loop-i : goal.invariant-loop-i
invariant-loop-i l = are_activities l.renewable l.nonrenewable (length l.activities) (l.i + 1) (drop l.i l.activities) ≡ are_activities l.renewable l.nonrenewable (length l.activities) 1 l.activities
