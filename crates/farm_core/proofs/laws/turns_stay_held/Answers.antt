use Rattle.farm_core.proofs.HeldLemmas as held
use Rattle.farm_core.proofs.laws.turns_stay_held.Goals as goal

pub returns : goal.returns
returns c = held.turns_stay_held
