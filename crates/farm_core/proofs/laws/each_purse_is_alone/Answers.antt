use Rattle.farm_core.proofs.AloneLemmas.{each_purse_is_alone}
use Rattle.farm_core.proofs.laws.each_purse_is_alone.Goals as goal

pub returns : goal.returns
returns c = each_purse_is_alone
