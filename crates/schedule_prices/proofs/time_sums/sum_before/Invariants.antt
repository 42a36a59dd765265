use Rattle.std.proofs.Common.{◌≡◌, ℕ, ◌<◌, ◌≤◌, take, get_or, sum}
use Rattle.schedule_prices.proofs.time_sums.sum_before.Given as goal

abbrev pub invariant-loop-time : goal.invariant-loop-time
invariant-loop-time l =
    (l.total ≡ sum (take l.time l.fn.sums)) × ((t : ℕ) → t < l.time → get_or l.sums t 0 ≡ sum (take t l.fn.sums))
    × ((t : ℕ) → l.time ≤ t → get_or l.sums t 0 ≡ get_or l.fn.sums t 0)
