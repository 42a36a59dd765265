use Rattle.farm_core.proofs.ReplayLemmas as replay
use Rattle.farm_core.proofs.laws.farms_are_replayed.Goals as goal

pub returns : goal.returns
returns c = replay.farms_are_replayed
