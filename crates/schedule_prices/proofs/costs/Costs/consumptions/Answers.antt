use Rattle.std.proofs.Common.{arith}
use Rattle.schedule_prices.specs.declared.place.SumKind.TheVariants.{Consumed}
use Rattle.schedule_prices.proofs.CostLemmas.{price_in-low}
use Rattle.schedule_prices.proofs.costs.Costs.consumptions.Goals as goal

pub product-total-requires-clause-price : goal.product-total-requires-clause-price
product-total-requires-clause-price c =
    omega (arith, c.consumed.ensures, price_in-low c.args.self.now.project Consumed c.loop-resource.resource 0 c.args.self.now.prices c.project-project.ensures.priced)
