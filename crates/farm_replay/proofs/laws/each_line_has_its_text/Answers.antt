use Rattle.farm_replay.proofs.CuttingLemmas.{each_line_has_its_text}
use Rattle.farm_replay.proofs.laws.each_line_has_its_text.Goals as goal

pub returns : goal.returns
returns c = each_line_has_its_text
