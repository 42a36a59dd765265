use Rattle.farm_replay.proofs.IsolationLemmas.{replays_are_isolated}
use Rattle.farm_replay.proofs.laws.replays_are_isolated.Goals as goal

pub returns : goal.returns
returns c = replays_are_isolated
