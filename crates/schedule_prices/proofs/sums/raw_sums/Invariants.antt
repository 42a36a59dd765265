use Rattle.std.proofs.Common.{◌≡◌, ℕ, ◌<◌, [], get_or, take, length}
use Rattle.schedule_prices.specs.Sums.{IsRaw}
use Rattle.schedule_prices.proofs.sums.raw_sums.Given as goal

abbrev pub invariant-loop-price : goal.invariant-loop-price
invariant-loop-price l = (length l.lines.items ≡ l.count) × ((j : ℕ) → j < l.count → IsRaw l.kind l.bound (take l.price-index l.prices) j (get_or l.lines.items j []))
