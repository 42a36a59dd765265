use Rattle.sample_search.proofs.NodeLemmas.{drawn_eligible}
use Rattle.sample_search.proofs.node.draw_candidate.Goals as goal

pub draw_mode-requires : goal.draw_mode-requires
draw_mode-requires c = drawn_eligible c.args.pass.now.project c.args.first c.in_ok-activity.activity c.args.pass.now.placed c.in_ok-activity.ensures
