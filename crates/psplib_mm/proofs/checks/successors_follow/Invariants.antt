use Rattle.std.proofs.Common.{◌≡◌, [], take, drop}
use Rattle.psplib_mm.specs.Contents.{follow}
use Rattle.psplib_mm.proofs.checks.successors_follow.Given as goal

abbrev pub invariant-loop-i : goal.invariant-loop-i
invariant-loop-i l = follow l.jobs l.job (take l.i l.successors) (drop l.i l.successors) ≡ follow l.jobs l.job [] l.successors
