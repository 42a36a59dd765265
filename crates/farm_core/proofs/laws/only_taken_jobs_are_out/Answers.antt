use Rattle.farm_core.proofs.HeldLemmas as held
use Rattle.farm_core.proofs.laws.only_taken_jobs_are_out.Goals as goal

pub returns : goal.returns
returns c = held.only_taken_jobs_are_out
