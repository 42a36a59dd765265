use Rattle.farm_pool.proofs.ClosedLemmas.{replies_are_in_the_history}
use Rattle.farm_pool.proofs.laws.replies_are_in_the_history.Goals as goal

pub returns : goal.returns
returns c = replies_are_in_the_history
