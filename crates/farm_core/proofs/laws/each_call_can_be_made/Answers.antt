use Rattle.farm_core.proofs.MadeLemmas as made
use Rattle.farm_core.proofs.laws.each_call_can_be_made.Goals as goal

pub returns : goal.returns
returns c = made.each_call_can_be_made
