use Rattle.std.proofs.Common.{◌≡◌, ◌≤◌, ◌^◌}
use Rattle.std.specs.Prelude.{IfSome}
use Rattle.schedule_prices.specs.Least.{least_below}
use Rattle.schedule_prices.specs.Prices.{cost_left}
use Rattle.schedule_prices.specs.Table.{is_barred, kept}
use Rattle.schedule_prices.proofs.barred.Barred.cheapest_in.Given as goal

abbrev pub invariant-loop-start : goal.invariant-loop-start
invariant-loop-start l =
    (l.least ≡ least_below (cost_left l.self.project (kept (is_barred l.self) l.piece) l.costs.prices l.activity l.mode) l.start) × IfSome l.least (λ x. x ≤ 2 ^ 60)
