use Rattle.farm_pool.proofs.RunLemmas.{each_call_of_a_run_can_be_made}
use Rattle.farm_pool.proofs.laws.each_call_of_a_run_can_be_made.Goals as goal

pub returns : goal.returns
returns c = each_call_of_a_run_can_be_made
