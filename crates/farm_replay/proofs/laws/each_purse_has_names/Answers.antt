use Rattle.farm_replay.proofs.NameLemmas.{each_purse_has_names}
use Rattle.farm_replay.proofs.laws.each_purse_has_names.Goals as goal

pub returns : goal.returns
returns c = each_purse_has_names
