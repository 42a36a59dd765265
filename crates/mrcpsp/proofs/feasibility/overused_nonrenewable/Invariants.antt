use Rattle.std.proofs.Common.{ℕ, ◌<◌, ◌≤◌}
use Rattle.mrcpsp.specs.Project.{stock}
use Rattle.mrcpsp.specs.Schedule.{consumed}
use Rattle.mrcpsp.proofs.feasibility.overused_nonrenewable.Given as goal

abbrev pub invariant-loop-resource : goal.invariant-loop-resource
invariant-loop-resource l = (r : ℕ) → r < l.resource → consumed l.fitting.project.now l.fitting.schedule.now r ≤ stock l.fitting.project.now r
