use Rattle.mrcpsp.proofs.MeaningLemmas.{earliest_is, earliest_unique}
use Rattle.mrcpsp.proofs.laws.earliest_is_the_least_start.Goals as goal

pub returns-clause-least : goal.returns-clause-least
returns-clause-least c = earliest_is

pub returns-clause-unique : goal.returns-clause-unique
returns-clause-unique c = earliest_unique
