use Rattle.std.proofs.Common.{◌≡◌, ◌+◌, ◌<◌, sym, ap, arith}
use Rattle.mrcpsp.specs.Project.{ProjectData, size}
use Rattle.schedule_prices.specs.Rows.{supply}
use Rattle.schedule_prices.specs.Prices.{cheapest}
use Rattle.schedule_prices.specs.Table.{is_barred}
use Rattle.schedule_prices.proofs.DearLemmas.{least-push}
use Rattle.schedule_prices.proofs.LeastLemmas.{missing-exceeds, sum-exceeds}
use Rattle.schedule_prices.proofs.barred.Barred.least.Goals as goal

pub returns-in_default : goal.returns-in_default
returns-in_default c =
    let p = c.args.self.now.project in
    let same : size c.project.result.now ≡ size p = ap (λ (q : ProjectData). size q) c.project.ensures in
    missing-exceeds (cheapest p c.args.self.now.bound (is_barred c.args.self.now) c.args.costs.now.prices) (supply p c.args.costs.now.prices)
    c.loop-activity.activity (size p) c.loop-activity.total c.loop-activity.invariant.whole (sym c.in_default.ensures.exact) (omega (arith, same, c.size-size.ensures.exact))

pub returns-then-supply-total : goal.returns-then-supply-total
returns-then-supply-total c =
    let p = c.args.self.now.project in
    let same : size c.project.result.now ≡ size p = ap (λ (q : ProjectData). size q) c.project.ensures in
    let over : supply p c.args.costs.now.prices < c.loop-activity.total + c.in-Some.own = grind (arith, c.supply-supply.ensures.exact, c.requires) in
    sum-exceeds (cheapest p c.args.self.now.bound (is_barred c.args.self.now) c.args.costs.now.prices) (supply p c.args.costs.now.prices)
    c.loop-activity.activity (size p) c.loop-activity.total c.in-Some.own c.loop-activity.invariant.whole (sym c.in-Some.ensures.exact) (omega (arith, same, c.size-size.ensures.exact)) over

pub loop-activity-preserved : goal.loop-activity-preserved
loop-activity-preserved c =
    let p = c.args.self.now.project in
    rw c.in_ok-push.ensures.items
    (least-push (cheapest p c.args.self.now.bound (is_barred c.args.self.now) c.args.costs.now.prices) c.loop-activity.activity c.supply-supply.result c.loop-activity.total c.in-Some.own
    (c.loop-activity.total + c.in-Some.own) c.loop-activity.least.items c.loop-activity.invariant (sym c.in-Some.ensures.exact) (omega arith) (omega arith))
