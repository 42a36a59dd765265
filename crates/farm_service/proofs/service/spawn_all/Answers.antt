use Rattle.farm_service.proofs.service.spawn_all.Goals as goal

pub spawn_role-requires-clause-tills : goal.spawn_role-requires-clause-tills
spawn_role-requires-clause-tills g c κs within = c.in-Ok.ensures.own c.args.service.now.shop.config.now c.loop-i.invariant.tills
