use Rattle.std.proofs.Common.{◌≡◌, ℕ, true, ◌||◌, ◌&&◌, get_or, length, []}
use Rattle.std.specs.Prelude.{nat_lt}
use Rattle.schedule_prices.specs.Dear.{is_above}
use Rattle.schedule_prices.proofs.choices.Choices.bar_above.Given as goal

-- in the modes so far what is too dear is barred
abbrev pub invariant-loop-mode : goal.invariant-loop-mode
invariant-loop-mode l =
    (l.mode-end ≡ length l.fn.self) × (length l.self-inside.modes.items ≡ length l.fn.self)
    × ((m t : ℕ) → get_or (get_or l.self-inside.modes.items m []) t true ≡ (get_or (get_or l.fn.self m []) t true || (nat_lt m l.mode && is_above l.costs l.most l.activity m t)))
