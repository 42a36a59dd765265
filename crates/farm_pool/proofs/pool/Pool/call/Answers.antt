use Rattle.farm_pool.proofs.pool.Pool.call.Goals as goal

pub returns-clause-truth : goal.returns-clause-truth
returns-clause-truth g c = c.each_reply_is_true.ensures.asked _ _ _ _ _
