use Rattle.farm_pool.proofs.WorkLemmas.{no_pass_is_split_off}
use Rattle.farm_pool.proofs.laws.no_pass_is_split_off.Goals as goal

pub returns : goal.returns
returns c = no_pass_is_split_off
