use Rattle.farm_core.proofs.AloneLemmas.{each_purse_is_isolated}
use Rattle.farm_core.proofs.laws.each_purse_is_isolated.Goals as goal

pub returns : goal.returns
returns c = each_purse_is_isolated
