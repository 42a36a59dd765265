use Rattle.std.proofs.Common.{ℕ, ◌<◌}
use Rattle.mrcpsp.specs.Project.{size}
use Rattle.mrcpsp.specs.Breach.{StartsEarly}
use Rattle.mrcpsp.proofs.feasibility.broken_precedence.Given as goal

abbrev pub invariant-loop-before : goal.invariant-loop-before
invariant-loop-before l = (i j : ℕ) → i < l.before → j < size l.fitting.project.now → StartsEarly l.fitting.project.now l.fitting.schedule.now i j → ⊥
