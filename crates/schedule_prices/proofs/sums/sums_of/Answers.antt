use Rattle.std.proofs.Common.{arith}
use Rattle.schedule_prices.proofs.SumLemmas.{summed-low}
use Rattle.schedule_prices.proofs.sums.sums_of.Goals as goal

pub sum_up-requires : goal.sum_up-requires
sum_up-requires c =
    omega (arith, c.requires.low, summed-low c.args.kind c.args.bound c.args.count c.loop-place.place c.args.prices.now c.loop-place.lines.items c.index_mut-line.result.now (omega arith) c.index_mut-line.ensures.value c.loop-place.invariant)
