use Rattle.sample_search.proofs.NodeLemmas.{may_come}
use Rattle.sample_search.proofs.node.run_drawn.Goals as goal

pub run-requires : goal.run-requires
run-requires c = rw c.draw_candidate-chosen.ensures (may_come c.args.pass.now.project c.args.first c.args.second c.args.pass.now.placed)
