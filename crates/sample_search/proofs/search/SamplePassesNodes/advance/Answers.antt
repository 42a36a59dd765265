use Rattle.std.proofs.Common.{◌≡◌, ◌+◌, arith, sym, ap, ◌∙◌, subst, option_map}
use Rattle.mrcpsp.specs.Project.{ProjectData, size}
use Rattle.mrcpsp.specs.Placed.{schedule_of}
use Rattle.strategy.specs.Outcome.{better, best_pass}
use Rattle.strategy.specs.declared.kind.Kind.TheVariants.{Sample}
use Rattle.serial_pass.specs.Pass.{PassData}
use Rattle.sample_search.specs.Words.{WordsData}
use Rattle.sample_search.specs.Best.{best_in, IsKept}
use Rattle.sample_search.proofs.SearchLemmas.{IsLastNode, IsInnerNode, ends-here, goes-on-here, run-placed, node-whole, best-ended, placed-begins, placed-goes-on}
use Rattle.sample_search.proofs.search.SamplePassesNodes.advance.Goals as goal

pub run_node-requires : goal.run_node-requires
run_node-requires c =
    let it = c.requires in
    omega (arith, it.here.drawn, it.few)

pub end_pass-requires-clause-whole : goal.end_pass-requires-clause-whole
end_pass-requires-clause-whole c =
    let s = c.args.self.now in
    let it = c.requires in
    let p = it.plan.project in
    let last : IsLastNode it.nodes (size p) = ends-here it.nodes (size p) s.left it.here.some it.here.left c.if-self-eq0.true in
    let own : c.run_node.new.pass.project ≡ p = ap (λ (a : PassData). a.project) c.run_node.ensures.pass ∙ it.here.project in
    rw own
    (node-whole p it.plan.kind it.nodes c.run_node.new.pass.placed last
    (run-placed it.plan s.words s.pass c.run_node.new.pass it.nodes it.here.kind it.here.drawn it.here.project it.here.placed c.run_node.ensures.pass))

pub returns-then-self-eq0 : goal.returns-then-self-eq0
returns-then-self-eq0 c plan k at more =
    let s = c.args.self.now in
    let p = plan.project in
    let ended = c.end_pass.ensures in
    let last : IsLastNode k (size p) = ends-here k (size p) s.left at.some at.left c.if-self-eq0.true in
    let own : c.run_node.new.pass.project ≡ p = ap (λ (a : PassData). a.project) c.run_node.ensures.pass ∙ at.project in
    let placed = run-placed plan s.words s.pass c.run_node.new.pass k at.kind at.drawn at.project at.placed c.run_node.ensures.pass in
    record {
      kind = at.kind ∙ ap (λ (w : WordsData). Sample w.seed) (sym c.run_node.ensures.words);
      some = at.some;
      nodes = at.nodes;
      left = omega (arith, at.nodes, last.place);
      drawn = omega (arith, ap (λ (w : WordsData). w.drawn) c.run_node.ensures.words, at.drawn);
      measured = at.measured;
      project = ap (λ (a : PassData). a.project) ended.pass ∙ own;
      placed = ap (λ (a : PassData). a.placed) ended.pass ∙ placed-begins p plan.kind (k + 1) last.place;
      kept = subst (λ (q : ProjectData). IsKept q c.end_pass.new.best) own ended.kept;
      untaken = ended.taken ∙ at.untaken;
      shortest = ended.best at.untaken
          ∙ ap (λ (q : ProjectData). better q (best_in s.best) (option_map (schedule_of (size q)) c.run_node.new.pass.placed)) own
          ∙ best-ended p plan.kind k c.run_node.new.pass.placed (best_in s.best) last placed at.shortest;
    }

pub returns-else-self-eq0 : goal.returns-else-self-eq0
returns-else-self-eq0 c plan k at more =
    let s = c.args.self.now in
    let p = plan.project in
    let inner : IsInnerNode k (size p) = goes-on-here k (size p) s.left at.some at.left c.if-self-eq0.false in
    record {
      kind = at.kind ∙ ap (λ (w : WordsData). Sample w.seed) (sym c.run_node.ensures.words);
      some = at.some;
      nodes = at.nodes;
      left = omega (arith, at.left, inner.place, c.if-self-eq0.false);
      drawn = omega (arith, ap (λ (w : WordsData). w.drawn) c.run_node.ensures.words, at.drawn);
      measured = at.measured;
      project = ap (λ (a : PassData). a.project) c.run_node.ensures.pass ∙ at.project;
      placed = run-placed plan s.words s.pass c.run_node.new.pass k at.kind at.drawn at.project at.placed c.run_node.ensures.pass ∙ placed-goes-on p plan.kind k inner;
      kept = at.kept;
      untaken = at.untaken;
      shortest = at.shortest ∙ ap (best_pass p plan.kind) (sym inner.number);
    }
