use Rattle.std.proofs.Common.{◌≡◌, ◌-◌, get_or, arith}
use Rattle.schedule_prices.proofs.TimeSumLemmas.{sum-drop_back, sum-drop-le, behind-step}
use Rattle.schedule_prices.proofs.time_sums.sum_behind.Goals as goal

pub overflow_add-total : goal.overflow_add-total
overflow_add-total c =
    let old = c.args.sums.now in
    let time = c.loop-time.time in
    let own : get_or c.loop-time.sums (time - 1) 0 ≡ get_or old (time - 1) 0 = c.loop-time.invariant.2 (time - 1) (omega arith) in
    omega (arith, own, sum-drop_back old time (omega arith) (omega arith), sum-drop-le old (time - 1))

pub loop-time-preserved : goal.loop-time-preserved
loop-time-preserved c =
    behind-step c.args.sums.now c.loop-time.sums c.loop-time.time c.loop-time.total (omega arith) (omega arith) (omega arith)
    c.loop-time.invariant.0 c.loop-time.invariant.1 c.loop-time.invariant.2
