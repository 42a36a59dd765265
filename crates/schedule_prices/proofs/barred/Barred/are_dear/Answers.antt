use Rattle.std.proofs.Common.{◌≡◌, ◌+◌, ◌<◌, sym, ap, arith}
use Rattle.mrcpsp.specs.Project.{size}
use Rattle.schedule_prices.specs.Rows.{supply}
use Rattle.schedule_prices.specs.Prices.{cheapest}
use Rattle.schedule_prices.specs.Table.{BarredData, is_barred, kept}
use Rattle.schedule_prices.proofs.LeastLemmas.{missing-exceeds, sum-exceeds}
use Rattle.schedule_prices.proofs.barred.Barred.are_dear.Goals as goal

pub returns-in-None : goal.returns-in-None
returns-in-None c =
    let p = c.args.self.now.project in
    let same : size c.self.inside.project.now ≡ size p = ap (λ (b : BarredData). size b.project) c.self.view_is in
    sym (missing-exceeds (cheapest p c.args.self.now.bound (kept (is_barred c.args.self.now) c.args.piece.now) c.args.costs.now.prices) (supply p c.args.costs.now.prices)
    c.loop-activity.activity (size p) c.loop-activity.total c.loop-activity.invariant.0 (sym c.in-None.ensures.exact) (omega (arith, same)))

pub returns-then-supply-total : goal.returns-then-supply-total
returns-then-supply-total c =
    let p = c.args.self.now.project in
    let same : size c.self.inside.project.now ≡ size p = ap (λ (b : BarredData). size b.project) c.self.view_is in
    let over : supply p c.args.costs.now.prices < c.loop-activity.total + c.in-Some.least = grind (arith, c.supply-supply.ensures.exact, c.requires) in
    sym (sum-exceeds (cheapest p c.args.self.now.bound (kept (is_barred c.args.self.now) c.args.piece.now) c.args.costs.now.prices) (supply p c.args.costs.now.prices)
    c.loop-activity.activity (size p) c.loop-activity.total c.in-Some.least c.loop-activity.invariant.0 (sym c.in-Some.ensures.exact) (omega (arith, same)) over)
