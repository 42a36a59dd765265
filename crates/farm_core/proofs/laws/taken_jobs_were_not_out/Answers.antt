use Rattle.farm_core.proofs.HeldLemmas as held
use Rattle.farm_core.proofs.laws.taken_jobs_were_not_out.Goals as goal

pub returns : goal.returns
returns c = held.taken_jobs_were_not_out
