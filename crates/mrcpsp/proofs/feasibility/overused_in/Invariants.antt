use Rattle.std.proofs.Common.{ℕ, ◌<◌, ◌≤◌}
use Rattle.mrcpsp.specs.Project.{capacity}
use Rattle.mrcpsp.specs.Schedule.{use_of}
use Rattle.mrcpsp.proofs.feasibility.overused_in.Given as goal

abbrev pub invariant-loop-resource : goal.invariant-loop-resource
invariant-loop-resource l = (q : ℕ) → q < l.resource → use_of l.fitting.project.now l.fitting.schedule.now q l.period ≤ capacity l.fitting.project.now q
