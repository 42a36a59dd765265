use Rattle.std.proofs.Common.{refl, arith, sym, ap, ◌∙◌}
use Rattle.std.proofs.Math.Nat.{zero-mod}
use Rattle.mrcpsp.specs.Project.{size}
use Rattle.strategy.specs.declared.kind.Kind.TheVariants.{Sample}
use Rattle.serial_pass.specs.Pass.{PassData}
use Rattle.sample_search.specs.Words.{WordsData}
use Rattle.sample_search.proofs.SearchLemmas.{first-placed, best-none}
use Rattle.sample_search.proofs.search.SamplePassesNodes.of.Goals as goal

pub returns : goal.returns
returns c =
    let plan = c.args.plan.now in
    let tools = c.in_ok-measures.ensures in
    record {
      kind = c.seed.ensures ∙ ap (λ (w : WordsData). Sample w.seed) (sym c.new-words.ensures);
      some = omega (arith, c.size-size.ensures.exact, c.size-size.ensures.some);
      nodes = c.size-size.ensures.exact;
      left = omega (arith, c.size-size.ensures.exact, zero-mod (size plan.project));
      drawn = omega (arith, ap (λ (w : WordsData). w.drawn) c.new-words.ensures);
      measured = tools.measures;
      project = ap (λ (a : PassData). a.project) tools.pass;
      placed = ap (λ (a : PassData). a.placed) tools.pass ∙ first-placed plan.project plan.kind;
      kept = tools.room;
      untaken = refl;
      shortest = best-none plan.project plan.kind;
    }
