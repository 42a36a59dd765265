use Rattle.farm_replay.proofs.IsolationLemmas.{each_replays_alone}
use Rattle.farm_replay.proofs.laws.each_replays_alone.Goals as goal

pub returns : goal.returns
returns c = each_replays_alone
