use Rattle.std.proofs.Common.{◌≡◌, length, not}
use Rattle.std.specs.List.{list_any}
use Rattle.mrcpsp.specs.Project.{is_between}
use Rattle.psplib_mm.proofs.limits.are_modes_miscounted.Given as goal

abbrev pub invariant-loop-job : goal.invariant-loop-job
invariant-loop-job l = list_any (λ j. not (is_between 1 10 j.modes.number)) l.left ≡ list_any (λ j. not (is_between 1 10 j.modes.number)) l.initial.left

abbrev pub decreases-loop-job : goal.decreases-loop-job
decreases-loop-job l = length l.left
