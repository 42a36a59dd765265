use Rattle.std.proofs.Common.{◌≡◌, ℕ, true, ◌||◌, ◌&&◌, nat_le, nat_lt, get_or, length}
use Rattle.schedule_prices.proofs.start_marks.StartMarks.bar.Given as goal

-- what is below the start is barred if it is in the range
abbrev pub invariant-loop-start : goal.invariant-loop-start
invariant-loop-start l =
    (l.start-end ≡ length l.fn.self) × (length l.self-inside.barred.items ≡ length l.fn.self)
    × ((t : ℕ) → get_or l.self-inside.barred.items t true ≡ (get_or l.fn.self t true || (nat_lt t l.start && (nat_le l.from t && nat_le t l.to))))
