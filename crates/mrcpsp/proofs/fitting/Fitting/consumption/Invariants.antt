use Rattle.std.proofs.Common.{◌≡◌, ◌≤◌, ◌*◌}
use Rattle.mrcpsp.specs.Numbers.{sum_below}
use Rattle.mrcpsp.specs.Project.{consumption}
use Rattle.mrcpsp.specs.Schedule.{mode_of}
use Rattle.mrcpsp.proofs.fitting.Fitting.consumption.Given as goal

abbrev pub invariant-loop-activity : goal.invariant-loop-activity
invariant-loop-activity l = (l.total ≡ sum_below (λ j. consumption l.self.project.now j (mode_of l.self.schedule.now j) l.resource) l.activity) × (l.total ≤ 1000000 * l.activity)
