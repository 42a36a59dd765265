use Rattle.farm_pool.proofs.WorkLemmas.{fresh_turn}
use Rattle.farm_pool.proofs.work.run_all.Goals as goal

pub run-requires-after_bounds : goal.run-requires-after_bounds
run-requires-after_bounds g c κs within = fresh_turn c.args.turn.slice c.args.turn.ran (g.J.Strategy.meaning c.args.turn.search) c.requires.unrun c.requires.best
