use Rattle.std.proofs.Common.{◌≡◌, ℕ, ◌*◌, ◌<◌, ◌≤◌, length, get_or}
use Rattle.mrcpsp.specs.Numbers.{sum_below}
use Rattle.mrcpsp.specs.Project.{renewables}
use Rattle.mrcpsp.specs.Schedule.{load, mode_of, start_of}
use Rattle.mrcpsp.proofs.fitting.Fitting.uses_at.Given as goal

abbrev pub invariant-loop-activity : goal.invariant-loop-activity
invariant-loop-activity l = record {
  fit : length l.uses ≡ 8;
  sums : (r : ℕ) → r < renewables l.self.project.now → get_or l.uses r 0 ≡ sum_below (λ j. load l.self.project.now r l.period j (mode_of l.self.schedule.now j) (start_of l.self.schedule.now j)) l.activity;
  few : (r : ℕ) → get_or l.uses r 0 ≤ 1000000 * l.activity;
}
