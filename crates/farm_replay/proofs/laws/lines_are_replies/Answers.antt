use Rattle.farm_replay.proofs.ByteLemmas.{lines_are_replies}
use Rattle.farm_replay.proofs.laws.lines_are_replies.Goals as goal

pub returns : goal.returns
returns c = lines_are_replies
