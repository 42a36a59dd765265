use Rattle.farm_pool.proofs.ClosedLemmas.{closed_pools_are_isolated}
use Rattle.farm_pool.proofs.laws.closed_pools_are_isolated.Goals as goal

pub returns : goal.returns
returns c = closed_pools_are_isolated
