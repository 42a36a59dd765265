use Rattle.std.proofs.Common.{◌≡◌, ℕ, ◌+◌, ◌-◌, ◌<◌, false, [], get_or, replicate, length}
use Rattle.mrcpsp.specs.Project.{duration}
use Rattle.schedule_prices.proofs.choices.Choices.new.Given as goal

abbrev pub invariant-loop-mode : goal.invariant-loop-mode
invariant-loop-mode l =
    (length l.modes.items ≡ l.mode) × ((m : ℕ) → m < l.mode → get_or l.modes.items m [] ≡ replicate (l.bound + 1 - duration l.project l.activity m) false)
