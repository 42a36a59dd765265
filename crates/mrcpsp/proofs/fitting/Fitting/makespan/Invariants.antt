use Rattle.std.proofs.Common.{◌≡◌}
use Rattle.mrcpsp.specs.Numbers.{max_below}
use Rattle.mrcpsp.specs.Schedule.{finish}
use Rattle.mrcpsp.proofs.fitting.Fitting.makespan.Given as goal

abbrev pub invariant-loop-activity : goal.invariant-loop-activity
invariant-loop-activity l = l.latest ≡ max_below (finish l.self.project.now l.self.schedule.now) l.activity
