use Rattle.std.proofs.Common.{◌≡◌, ℕ, ◌<◌, ◌≤◌, drop, get_or, length, sum}
use Rattle.schedule_prices.proofs.time_sums.sum_behind.Given as goal

abbrev pub invariant-loop-time : goal.invariant-loop-time
invariant-loop-time l =
    (l.total ≡ sum (drop l.time l.fn.sums)) × ((t : ℕ) → l.time ≤ t → t < length l.fn.sums → get_or l.sums t 0 ≡ sum (drop t l.fn.sums))
    × ((t : ℕ) → t < l.time → get_or l.sums t 0 ≡ get_or l.fn.sums t 0)
