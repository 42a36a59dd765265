use Rattle.farm_pool.proofs.RunLemmas.{each_run_is_a_closed_pools}
use Rattle.farm_pool.proofs.laws.each_run_is_a_closed_pools.Goals as goal

pub returns : goal.returns
returns c = each_run_is_a_closed_pools
