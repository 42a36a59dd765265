use Rattle.std.proofs.Common.{◌≡◌, ℕ, ◌<◌, length, get_or}
use Rattle.mrcpsp.specs.Schedule.{finish}
use Rattle.mrcpsp.proofs.fitting.Fitting.finishes.Given as goal

abbrev pub invariant-loop-activity : goal.invariant-loop-activity
invariant-loop-activity l = record {
  fit : length l.finishes ≡ 202;
  done : (j : ℕ) → j < l.activity → get_or l.finishes j 0 ≡ finish l.self.project.now l.self.schedule.now j;
}
