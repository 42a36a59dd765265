use Rattle.std.proofs.Common.{◌≡◌, ◌+◌, replicate}
use Rattle.schedule_prices.proofs.sums.zeros.Given as goal

abbrev pub invariant-loop : goal.invariant-loop
invariant-loop l = l.made.items ≡ replicate l.counter (replicate (l.bound + 1) 0)
