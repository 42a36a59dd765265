use Rattle.schedule_prices.specs.Table.{Keeps}
use Rattle.schedule_prices.proofs.barred.Barred.tighten_all.Given as goal

abbrev pub invariant-loop-place : goal.invariant-loop-place
invariant-loop-place l = Keeps l.fn.self l.self
