use Rattle.std.proofs.Common.{◌≡◌, ◌+◌, ap, arith, refl, sym, ◌∙◌}
use Rattle.strategy.specs.declared.kind.Kind.TheVariants.{Tree}
use Rattle.solve_cli.specs.declared.search_kinds.SearchKind.TheVariants.{Planned}
use Rattle.solve_cli.specs.declared.search_result.SearchResult.{SearchResult}
use Rattle.solve_cli.proofs.PortfolioLemmas.{by_few, last_at, next_at, all_at}
use Rattle.solve_cli.proofs.portfolio.solve_each.Goals as goal

pub returns-then-is_decided : goal.returns-then-is_decided
returns-then-is_decided g c =
    last_at c.args.project.now c.args.kinds.now c.loop-kind.kind-index (Planned Tree) c.args.most c.loop-kind.found c.in_ok-next.next c.joined-found.result
    (omega arith) c.loop-kind.invariant.leads c.in_ok-next.ensures (sym c.is_decided-is_decided.ensures ∙ c.if-is_decided.true) c.joined-found.ensures

pub joined-found-requires-clause-few : goal.joined-found-requires-clause-few
joined-found-requires-clause-few g c =
    omega (arith, by_few _ _ _ _ c.in_ok-next.ensures, c.requires.few, c.requires.short, c.loop-kind.invariant.few, c.loop-kind.auto.kind-index-end)

pub loop-kind-preserved : goal.loop-kind-preserved
loop-kind-preserved g c =
    let n : c.joined-found.result.nodes ≡ c.loop-kind.found.nodes + c.in_ok-next.next.nodes = ap (λ (x : SearchResult). x.nodes) c.joined-found.ensures in
    record {
      few = omega (arith, n, by_few _ _ _ _ c.in_ok-next.ensures, c.requires.few, c.loop-kind.invariant.few);
      made = rw c.joined-found.ensures refl;
      leads =
          next_at c.args.project.now c.args.kinds.now c.loop-kind.kind-index (Planned Tree) c.args.most c.loop-kind.found c.in_ok-next.next c.joined-found.result
          (omega arith) c.loop-kind.invariant.leads c.in_ok-next.ensures (sym c.is_decided-is_decided.ensures ∙ c.if-is_decided.false) c.joined-found.ensures;
    }

pub returns : goal.returns
returns g c = all_at c.args.project.now c.args.kinds.now c.loop-kind.kind-index c.args.most c.loop-kind.found (omega arith) c.loop-kind.invariant.leads
