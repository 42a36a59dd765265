use Rattle.farm_pool.proofs.RunLemmas.{passes_can_make_each_run}
use Rattle.farm_pool.proofs.laws.passes_can_make_each_run.Goals as goal

pub returns : goal.returns
returns c = passes_can_make_each_run
