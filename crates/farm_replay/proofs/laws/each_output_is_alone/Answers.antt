use Rattle.farm_replay.proofs.ByteLemmas.{each_output_is_alone}
use Rattle.farm_replay.proofs.laws.each_output_is_alone.Goals as goal

pub returns : goal.returns
returns c = each_output_is_alone
