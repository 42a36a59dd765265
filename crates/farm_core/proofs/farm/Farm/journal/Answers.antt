use Rattle.std.proofs.Common.{subst}
use Rattle.farm_core.specs.Farm.{IsReached}
use Rattle.farm_core.proofs.HomeLemmas.{at_home}
use Rattle.farm_core.proofs.farm.Farm.journal.Goals as goal

pub returns-clause-home : goal.returns-clause-home
returns-clause-home g c = at_home c.args.self.now (subst IsReached c.self.view_is c.self.invariant.0.reached)
