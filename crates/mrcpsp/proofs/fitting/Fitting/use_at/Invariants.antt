use Rattle.std.proofs.Common.{◌≡◌, ◌≤◌, ◌*◌}
use Rattle.mrcpsp.specs.Numbers.{sum_below}
use Rattle.mrcpsp.specs.Schedule.{load, mode_of, start_of}
use Rattle.mrcpsp.proofs.fitting.Fitting.use_at.Given as goal

abbrev pub invariant-loop-activity : goal.invariant-loop-activity
invariant-loop-activity l = (l.total ≡ sum_below (λ j. load l.self.project.now l.resource l.period j (mode_of l.self.schedule.now j) (start_of l.self.schedule.now j)) l.activity) × (l.total ≤ 1000000 * l.activity)
