use Rattle.std.proofs.Common.{◌≡◌, ◌<◌, ap, arith}
use Rattle.mrcpsp.specs.Project.{renewables}
use Rattle.schedule_prices.specs.Costs.{CostsData}
use Rattle.schedule_prices.proofs.CostLemmas.{used-split}
use Rattle.schedule_prices.proofs.costs.Costs.used.Goals as goal

pub overflow_sub-result : goal.overflow_sub-result
overflow_sub-result c =
    let same : renewables c.self.inside.project.now ≡ renewables c.args.self.now.project = ap (λ (x : CostsData). renewables x.project) c.self.view_is in
    let wide : c.self.inside.bound ≡ c.args.self.now.bound = ap (λ (x : CostsData). x.bound) c.self.view_is in
    let known : c.args.resource < renewables c.self.inside.project.now = omega (arith, same) in
    let first = c.self.invariant.uses c.args.resource c.args.start known (omega (arith, wide)) in
    let last = c.self.invariant.uses c.args.resource c.args.end known (omega (arith, wide)) in
    grind (arith, first, last, used-split c.self.inside.prices.now c.args.resource c.args.start c.args.end c.requires.order, c.deref.ensures.value, c.deref-2.ensures.value, c.sum_at-before.ensures, c.sum_at-all.ensures)
