use Rattle.std.proofs.Common.{◌≡◌, ◌≤◌}
use Rattle.std.specs.Prelude.{IfSome}
use Rattle.schedule_prices.specs.Least.{least_below}
use Rattle.schedule_prices.specs.Steps.{time_left}
use Rattle.schedule_prices.specs.Table.{is_barred}
use Rattle.schedule_prices.proofs.barred.Barred.least_in.Given as goal

abbrev pub invariant-loop-start : goal.invariant-loop-start
invariant-loop-start l = (l.least ≡ least_below (time_left l.time l.self.project l.self.bound (is_barred l.self) l.activity l.mode) l.start) × IfSome l.least (λ x. x ≤ 2000000)
