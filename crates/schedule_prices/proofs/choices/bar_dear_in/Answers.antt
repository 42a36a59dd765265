use Rattle.std.proofs.Common.{◌+◌, ◌-◌, get_or, arith}
use Rattle.schedule_prices.proofs.DearLemmas.{dear-step, dear-all}
use Rattle.schedule_prices.proofs.choices.bar_dear_in.Goals as goal

pub loop-activity-preserved : goal.loop-activity-preserved
loop-activity-preserved c =
    let x = c.loop-activity.activity in
    dear-step c.args.costs.now c.args.least.now c.args.activities.now.items c.loop-activity.activities.items c.bar_above_in.new.activities.items x
    (c.supply.result - c.sum_of.result + get_or c.args.least.now x 0) (omega (arith, c.supply.ensures.exact, c.sum_of.ensures, c.requires.within)) (omega (arith, c.requires.size)) c.loop-activity.invariant c.bar_above_in.ensures

pub returns : goal.returns
returns c = dear-all c.args.costs.now c.args.least.now c.args.activities.now.items c.loop-activity.activities.items c.loop-activity.activity (omega (arith, c.requires.size)) c.loop-activity.invariant
