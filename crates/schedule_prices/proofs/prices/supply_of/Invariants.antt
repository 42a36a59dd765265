use Rattle.std.proofs.Common.{◌≡◌, ◌≤◌, ◌*◌, take, sum_by}
use Rattle.schedule_prices.specs.Rows.{limit}
use Rattle.schedule_prices.proofs.prices.supply_of.Given as goal

abbrev pub invariant-loop-price : goal.invariant-loop-price
invariant-loop-price l = (l.total ≡ sum_by (λ x. x.price * limit l.project x.row) (take l.price-index l.prices)) × (l.total ≤ 1000000 * sum_by (λ x. x.price) (take l.price-index l.prices))
