use Rattle.std.proofs.Common.{◌≡◌, ℕ, ◌||◌, ◌&&◌}
use Rattle.std.specs.Prelude.{nat_lt}
use Rattle.schedule_prices.specs.Choices.{is_marked}
use Rattle.schedule_prices.specs.Dear.{is_dear}
use Rattle.schedule_prices.proofs.choices.bar_dear_in.Given as goal

-- in the activities so far what is too dear is barred
abbrev pub invariant-loop-activity : goal.invariant-loop-activity
invariant-loop-activity l =
    (j m t : ℕ) → is_marked l.activities.items j m t ≡ (is_marked l.fn.activities.items j m t || (nat_lt j l.activity && is_dear l.costs.project l.costs.prices l.least j m t))
