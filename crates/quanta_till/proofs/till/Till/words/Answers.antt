use Rattle.std.proofs.Common.{rules}
use Rattle.quanta_till.proofs.TillLemmas.{loads_pool, loads_spent, loads_granted}
use Rattle.quanta_till.proofs.till.Till.words.Goals as goal

pub load-pool-requires : goal.load-pool-requires
load-pool-requires c = (search rules, search rules, loads_pool _ _ _ _)

pub load-spent-requires : goal.load-spent-requires
load-spent-requires c = (search rules, search rules, loads_spent _ _ _ _)

pub load-granted-requires : goal.load-granted-requires
load-granted-requires c = (search rules, search rules, loads_granted _ _ _ _)
