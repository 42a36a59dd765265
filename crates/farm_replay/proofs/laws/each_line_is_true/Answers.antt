use Rattle.farm_replay.proofs.TruthLemmas.{each_line_is_true}
use Rattle.farm_replay.proofs.laws.each_line_is_true.Goals as goal

pub returns : goal.returns
returns c = each_line_is_true c.what_is_read_is_a_project.ensures
