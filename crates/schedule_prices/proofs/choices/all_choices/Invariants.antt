use Rattle.std.proofs.Common.{◌≡◌, ℕ, ◌+◌, ◌<◌, true, [], get_or, length}
use Rattle.std.specs.Prelude.{nat_lt}
use Rattle.mrcpsp.specs.Project.{mode_count, duration}
use Rattle.schedule_prices.proofs.choices.all_choices.Given as goal

abbrev pub invariant-loop-activity : goal.invariant-loop-activity
invariant-loop-activity l =
    (length l.activities.items ≡ l.activity)
    × ((j m t : ℕ) → j < l.activity → m < mode_count l.project j → get_or (get_or (get_or l.activities.items j []) m []) t true ≡ nat_lt l.bound (t + duration l.project j m))
