use Rattle.farm_core.proofs.NeedLemmas as need
use Rattle.farm_core.proofs.laws.nodes_are_the_lesser.Goals as goal

pub returns : goal.returns
returns c = need.nodes_are_the_lesser
