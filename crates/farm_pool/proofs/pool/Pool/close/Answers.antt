use Rattle.farm_pool.proofs.pool.Pool.close.Goals as goal

pub returns-in-Some-clause-isolated : goal.returns-in-Some-clause-isolated
returns-in-Some-clause-isolated g c = c.closed_pools_are_isolated.ensures _ _
