use Rattle.schedule_prices.specs.Table.{Keeps}
use Rattle.schedule_prices.proofs.barred.Barred.tighten_arcs.Given as goal

abbrev pub invariant-loop-after : goal.invariant-loop-after
invariant-loop-after l = Keeps l.fn.self l.self
