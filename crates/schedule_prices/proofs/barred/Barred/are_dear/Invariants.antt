use Rattle.std.proofs.Common.{◌≡◌, ◌≤◌, Some}
use Rattle.schedule_prices.specs.Least.{total_below}
use Rattle.schedule_prices.specs.Prices.{cheapest}
use Rattle.schedule_prices.specs.Table.{is_barred, kept}
use Rattle.schedule_prices.proofs.barred.Barred.are_dear.Given as goal

abbrev pub invariant-loop-activity : goal.invariant-loop-activity
invariant-loop-activity l =
    (total_below (cheapest l.self.project l.self.bound (kept (is_barred l.self) l.piece) l.costs.prices) l.activity ≡ Some l.total) × (l.total ≤ l.supply)
