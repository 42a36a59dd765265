use Rattle.farm_core.proofs.HeldLemmas as held
use Rattle.farm_core.proofs.laws.taken_turns_are_held.Goals as goal

pub returns : goal.returns
returns c = held.taken_turns_are_held
