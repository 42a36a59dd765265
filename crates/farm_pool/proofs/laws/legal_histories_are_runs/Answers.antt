use Rattle.farm_pool.proofs.LawLemmas.{legal_histories_are_runs}
use Rattle.farm_pool.proofs.laws.legal_histories_are_runs.Goals as goal

pub returns : goal.returns
returns c = legal_histories_are_runs
