use Rattle.farm_replay.proofs.BeginLemmas.{lines_tell_whose}
use Rattle.farm_replay.proofs.laws.lines_tell_whose.Goals as goal

pub returns : goal.returns
returns c = lines_tell_whose
