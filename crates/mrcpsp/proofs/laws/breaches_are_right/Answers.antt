use Rattle.mrcpsp.proofs.AllBreachesLemmas.{breaches_are_right}
use Rattle.mrcpsp.proofs.laws.breaches_are_right.Goals as goal

pub returns : goal.returns
returns c = breaches_are_right
