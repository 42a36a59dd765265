use Rattle.std.proofs.Common.{◌≡◌, ◌≤◌}
use Rattle.std.specs.Prelude.{IfSome}
use Rattle.schedule_prices.specs.Least.{least_below}
use Rattle.schedule_prices.specs.Steps.{least_in}
use Rattle.schedule_prices.specs.Table.{is_barred}
use Rattle.schedule_prices.proofs.barred.Barred.least_time.Given as goal

abbrev pub invariant-loop-mode : goal.invariant-loop-mode
invariant-loop-mode l = (l.least ≡ least_below (least_in l.time l.self.project l.self.bound (is_barred l.self) l.activity) l.mode) × IfSome l.least (λ x. x ≤ 2000000)
