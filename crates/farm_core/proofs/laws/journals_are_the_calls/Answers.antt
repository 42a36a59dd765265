use Rattle.farm_core.proofs.MadeLemmas as made
use Rattle.farm_core.proofs.laws.journals_are_the_calls.Goals as goal

pub returns : goal.returns
returns c = made.journals_are_the_calls
