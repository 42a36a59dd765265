use Rattle.std.proofs.Common.{◌≡◌, ◌≤◌, ◌^◌, take, sum_by}
use Rattle.schedule_prices.proofs.prices.are_low.Given as goal

abbrev pub invariant-loop-price : goal.invariant-loop-price
invariant-loop-price l = (l.sum ≡ sum_by (λ x. x.price) (take l.price-index l.prices)) × (l.sum ≤ 2 ^ 40)
