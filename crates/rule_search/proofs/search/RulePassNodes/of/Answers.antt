use Rattle.std.proofs.Common.{zero-le, arith, refl, sym, ap}
use Rattle.serial_pass.specs.Pass.{PassData}
use Rattle.rule_search.proofs.SearchLemmas.{best_before}
use Rattle.rule_search.proofs.search.RulePassNodes.of.Goals as goal

pub returns : goal.returns
returns c =
    let space = c.in_ok-measures.ensures in
    record {
      rule = c.requires;
      kind = refl;
      count = refl;
      all = c.size.ensures.exact;
      few = c.size.ensures.few;
      within = zero-le;
      measured = space.measures;
      project = ap (λ (a : PassData). a.project) space.pass;
      placed = ap (λ (a : PassData). a.placed) space.pass;
      reserved = λ _. space.room;
      found = sym (best_before c.args.plan.now 0 c.requires (omega (arith, c.size.ensures.some, c.size.ensures.exact)));
    }
