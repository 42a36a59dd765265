use Rattle.farm_core.proofs.AlikeLemmas as alike
use Rattle.farm_core.proofs.laws.each_ends_alike.Goals as goal

pub returns : goal.returns
returns c = alike.each_ends_alike
