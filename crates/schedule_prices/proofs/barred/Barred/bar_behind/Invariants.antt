use Rattle.schedule_prices.specs.Choices.{AreBarred}
use Rattle.schedule_prices.specs.Table.{Keeps, is_barred}
use Rattle.schedule_prices.proofs.barred.Barred.bar_behind.Given as goal

abbrev pub invariant-loop-mode : goal.invariant-loop-mode
invariant-loop-mode l = Keeps l.fn.self l.self × AreBarred l.self.project l.self.bound (is_barred l.self)
