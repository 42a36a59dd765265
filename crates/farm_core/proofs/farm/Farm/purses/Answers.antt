use Rattle.std.proofs.Common.{arith}
use Rattle.farm_core.proofs.FarmLemmas.{few_purses}
use Rattle.farm_core.proofs.farm.Farm.purses.Goals as goal

pub overflow_cast-result : goal.overflow_cast-result
overflow_cast-result g c = omega (arith, c.len.ensures, c.self.invariant.0.ledgers, few_purses c.self.inside.config c.self.invariant.0.config)

pub returns-clause-few : goal.returns-clause-few
returns-clause-few g c = omega (arith, c.len.ensures, c.self.invariant.0.ledgers, few_purses c.self.inside.config c.self.invariant.0.config)
