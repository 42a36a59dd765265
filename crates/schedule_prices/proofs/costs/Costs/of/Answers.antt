use Rattle.std.proofs.Common.{◌+◌, arith, ap}
use Rattle.mrcpsp.specs.Project.{ProjectData, duration}
use Rattle.schedule_prices.specs.declared.place.SumKind.TheVariants.{Begun, Ended}
use Rattle.schedule_prices.proofs.CostLemmas.{price_in-low, cost-low, cost-sum}
use Rattle.schedule_prices.proofs.costs.Costs.of.Goals as goal

pub overflow_add-arcs : goal.overflow_add-arcs
overflow_add-arcs c =
    let p = c.args.self.now.project in
    let prices = c.args.self.now.prices in
    omega (
      arith,
      c.begun.ensures,
      c.ended.ensures,
      price_in-low p Begun c.args.activity c.args.start prices c.project.ensures.priced,
      price_in-low p Ended c.args.activity (c.args.start + c.duration.result) prices c.project.ensures.priced,
    )

pub overflow_add-result : goal.overflow_add-result
overflow_add-result c =
    let p = c.args.self.now.project in
    let prices = c.args.self.now.prices in
    omega (
      arith,
      c.begun.ensures,
      c.ended.ensures,
      c.uses.ensures.few,
      c.consumptions.ensures.few,
      price_in-low p Begun c.args.activity c.args.start prices c.project.ensures.priced,
      price_in-low p Ended c.args.activity (c.args.start + c.duration.result) prices c.project.ensures.priced,
    )

pub returns-clause-few : goal.returns-clause-few
returns-clause-few c =
    let p = c.args.self.now.project in
    let prices = c.args.self.now.prices in
    let sum = cost-sum p prices c.args.activity c.args.mode c.args.start (c.args.start + c.duration.result) (c.begun.result + c.ended.result) (c.uses.result + c.consumptions.result)
    (omega (arith, c.duration.ensures.exact, ap (λ (q : ProjectData). duration q c.args.activity c.args.mode) c.project.ensures.exact)) c.project.ensures.priced (omega (arith, c.begun.ensures, c.ended.ensures)) (omega (arith, c.uses.ensures.exact, c.consumptions.ensures.exact)) in
    omega (arith, sum, cost-low p prices c.args.activity c.args.mode c.args.start c.project.ensures.project c.project.ensures.priced c.requires.activity c.requires.mode)
