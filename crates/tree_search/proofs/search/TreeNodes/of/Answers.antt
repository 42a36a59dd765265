use Rattle.std.proofs.Common.{◌≡◌, arith, sym, ap, ◌∙◌, subst, [], List}
use Rattle.std.proofs.lemmas.Bool.{both_ways}
use Rattle.mrcpsp.specs.Project.{ProjectData}
use Rattle.mrcpsp.specs.Limits.{IsProject}
use Rattle.mrcpsp.specs.Placed.{Placed}
use Rattle.serial_sgs.specs.Board.{BoardData}
use Rattle.tree_search.specs.Tree.{IsEarly}
use Rattle.tree_search.proofs.NodeLemmas.{bound_small, early_nil, first_candidate}
use Rattle.tree_search.proofs.StackLemmas.{first_at}
use Rattle.tree_search.proofs.search.TreeNodes.of.Goals as goal

pub returns : goal.returns
returns c =
    let p = c.args.plan.now.project in
    let none : c.in_ok-path.path.placed ≡ [] = ap (λ (b : BoardData). b.placed) c.in_ok-path.ensures in
    let own : c.path.inside.project ≡ p = ap (λ (b : BoardData). b.project) (c.path.view_is ∙ c.in_ok-path.ensures) in
    let project : IsProject p = subst (λ (q : ProjectData). IsProject q) own c.path.invariant.board.project in
    let found = c.in_ok-incumbent.incumbent.found in
    let bounded = c.bound-bound.ensures.measure p c.in_ok-measures.ensures in
    record {
      kind = c.requires;
      tree = record {
        own = ap (λ (b : BoardData). b.project) c.in_ok-path.ensures;
        bounded = bounded;
        low = omega (arith, bounded, bound_small p project);
        early = subst (λ (xs : List Placed). IsEarly p xs) (sym none) (early_nil p);
        incumbent = record {
          modes = c.in_ok-incumbent.ensures.modes ∙ c.size.ensures.exact;
          starts = c.in_ok-incumbent.ensures.starts ∙ c.size.ensures.exact;
          makespan = λ h. absurd (both_ways found c.in_ok-incumbent.ensures.none h);
          none = λ _. c.in_ok-incumbent.ensures.never;
        };
        top = rw none (first_candidate p project);
        width = c.of-width.ensures;
      };
      after = rw (none, c.in_ok-incumbent.ensures.none) (first_at p (omega (arith, c.size.ensures.exact, c.size.ensures.some)));
    }
