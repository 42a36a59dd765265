use Rattle.farm_replay.proofs.IsolationLemmas.{each_lone_replays_alone}
use Rattle.farm_replay.proofs.laws.each_lone_replays_alone.Goals as goal

pub returns : goal.returns
returns c = each_lone_replays_alone
