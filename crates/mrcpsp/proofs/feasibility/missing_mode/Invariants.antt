use Rattle.std.proofs.Common.{ℕ, ◌<◌}
use Rattle.mrcpsp.specs.Schedule.{HasMode}
use Rattle.mrcpsp.proofs.feasibility.missing_mode.Given as goal

abbrev pub invariant-loop-activity : goal.invariant-loop-activity
invariant-loop-activity l = (j : ℕ) → j < l.activity → HasMode l.project l.schedule j
