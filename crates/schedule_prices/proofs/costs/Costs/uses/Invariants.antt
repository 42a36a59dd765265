use Rattle.std.proofs.Common.{◌≡◌, ◌*◌, ◌≤◌, ◌^◌, sum_by}
use Rattle.mrcpsp.specs.Numbers.{sum_below}
use Rattle.mrcpsp.specs.Project.{request}
use Rattle.schedule_prices.specs.Costs.{used_in}
use Rattle.schedule_prices.proofs.costs.Costs.uses.Given as goal

abbrev pub invariant-loop-resource : goal.invariant-loop-resource
invariant-loop-resource l =
    (l.total ≡ sum_below (λ r. request l.self.project l.activity l.mode r * sum_by (used_in r l.start l.end) l.self.prices) l.resource) × (l.total ≤ l.resource * (1000000 * 2 ^ 40))
