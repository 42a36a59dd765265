use Rattle.schedule_prices.proofs.SumLemmas.{AreSummedTo}
use Rattle.schedule_prices.proofs.sums.sums_of.Given as goal

abbrev pub invariant-loop-place : goal.invariant-loop-place
invariant-loop-place l = AreSummedTo l.kind l.bound l.count l.prices l.place l.lines.items
