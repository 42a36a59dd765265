use Rattle.farm_service.proofs.shared.PoolAtShared.work.Goals as goal

pub returns-clause-worked : goal.returns-clause-worked
returns-clause-worked g c = (c.work.result.turns, c.work.result.strangers, c.work.ensures.worked)
