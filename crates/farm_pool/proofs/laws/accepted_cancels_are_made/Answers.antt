use Rattle.farm_pool.proofs.LawLemmas.{accepted_cancels_are_made}
use Rattle.farm_pool.proofs.laws.accepted_cancels_are_made.Goals as goal

pub returns : goal.returns
returns c = accepted_cancels_are_made
