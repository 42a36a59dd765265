use Rattle.std.proofs.Common.{◌≡◌, ◌*◌, ◌≤◌, ◌^◌, sum_by}
use Rattle.mrcpsp.specs.Numbers.{sum_below}
use Rattle.mrcpsp.specs.Project.{consumption}
use Rattle.schedule_prices.specs.declared.place.SumKind.TheVariants.{Consumed}
use Rattle.schedule_prices.specs.Sums.{price_in}
use Rattle.schedule_prices.proofs.costs.Costs.consumptions.Given as goal

abbrev pub invariant-loop-resource : goal.invariant-loop-resource
invariant-loop-resource l =
    (l.total ≡ sum_below (λ k. consumption l.self.project l.activity l.mode k * sum_by (price_in Consumed k 0) l.self.prices) l.resource) × (l.total ≤ l.resource * (1000000 * 2 ^ 40))
