use Rattle.std.proofs.Common.{refl, sym, ◌∙◌}
use Rattle.paid_search.proofs.PaidLemmas.{more_nodes}
use Rattle.rule_search.proofs.SearchLemmas.{HasRun, node_left, has_run, run_early, run_last}
use Rattle.rule_search.proofs.search.RulePassNodes.advance.Goals as goal

pub write_best-requires : goal.write_best-requires
write_best-requires c =
    let r = c.args.self.now in
    let it = c.requires in
    let ran : HasRun it.plan it.nodes c.run_node.new.pass = has_run r it.plan it.nodes c.run_node.new.pass it.here c.run_node.ensures in
    rw (c.take.ensures.value, ran.project) (it.here.reserved (node_left it.plan it.nodes it.here.rule (more_nodes it.plan it.nodes it.going)))

pub returns-then-is_whole : goal.returns-then-is_whole
returns-then-is_whole c plan k at more =
    let r = c.args.self.now in
    run_last r _ plan k at (node_left plan k at.rule (more_nodes plan k more)) (has_run r plan k c.run_node.new.pass at c.run_node.ensures) refl (sym c.is_whole.ensures ∙ c.if-is_whole.true) c.write_best.ensures

pub returns-else-is_whole : goal.returns-else-is_whole
returns-else-is_whole c plan k at more =
    let r = c.args.self.now in
    run_early r _ plan k at (node_left plan k at.rule (more_nodes plan k more)) (has_run r plan k c.run_node.new.pass at c.run_node.ensures) refl (sym c.is_whole.ensures ∙ c.if-is_whole.false)
