use Rattle.std.proofs.Common.{◌≡◌, ℕ, true, ◌||◌, ◌&&◌, get_or, length}
use Rattle.std.specs.Prelude.{nat_lt}
use Rattle.schedule_prices.specs.Rows.{cost}
use Rattle.schedule_prices.proofs.start_marks.StartMarks.bar_above.Given as goal

-- below the start what is too dear is barred
abbrev pub invariant-loop-start : goal.invariant-loop-start
invariant-loop-start l =
    (l.start-end ≡ length l.fn.self) × (length l.self-inside.barred.items ≡ length l.fn.self)
    × ((t : ℕ) → get_or l.self-inside.barred.items t true ≡ (get_or l.fn.self t true || (nat_lt t l.start && nat_lt l.most (cost l.costs.project l.costs.prices l.activity l.mode t))))
