use Rattle.std.proofs.Common.{◌≡◌, ◌≤◌, ◌^◌}
use Rattle.std.specs.Prelude.{IfSome}
use Rattle.schedule_prices.specs.Least.{least_below}
use Rattle.schedule_prices.specs.Prices.{cheapest_in}
use Rattle.schedule_prices.specs.Table.{is_barred, kept}
use Rattle.schedule_prices.proofs.barred.Barred.cheapest.Given as goal

abbrev pub invariant-loop-mode : goal.invariant-loop-mode
invariant-loop-mode l =
    (l.least ≡ least_below (cheapest_in l.self.project l.self.bound (kept (is_barred l.self) l.piece) l.costs.prices l.activity) l.mode) × IfSome l.least (λ x. x ≤ 2 ^ 60)
