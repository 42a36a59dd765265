use Rattle.farm_replay.proofs.ByteLemmas.{outputs_are_isolated}
use Rattle.farm_replay.proofs.laws.outputs_are_isolated.Goals as goal

pub returns : goal.returns
returns c = outputs_are_isolated
