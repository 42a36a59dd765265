use Rattle.std.proofs.Common.{◌≡◌, ℕ, true, ◌||◌, ◌&&◌, nat_lt, get_or, length, []}
use Rattle.schedule_prices.specs.Choices.{is_in}
use Rattle.schedule_prices.proofs.choices.Choices.bar.Given as goal

-- in the modes so far the piece is barred
abbrev pub invariant-loop-mode : goal.invariant-loop-mode
invariant-loop-mode l =
    (l.mode-end ≡ length l.fn.self) × (length l.self-inside.modes.items ≡ length l.fn.self)
    × ((m t : ℕ) → get_or (get_or l.self-inside.modes.items m []) t true ≡ (get_or (get_or l.fn.self m []) t true || (nat_lt m l.mode && is_in l.piece m t)))
