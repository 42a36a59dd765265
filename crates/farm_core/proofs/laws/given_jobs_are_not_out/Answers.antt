use Rattle.farm_core.proofs.HeldLemmas as held
use Rattle.farm_core.proofs.laws.given_jobs_are_not_out.Goals as goal

pub returns : goal.returns
returns c = held.given_jobs_are_not_out
