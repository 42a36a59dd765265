use Rattle.std.proofs.Common.{subst}
use Rattle.std.specs.Vec.{vec_capacity}
use Rattle.farm_core.specs.World.{World}
use Rattle.farm_core.specs.Farm.{IsFarm}
use Rattle.farm_core.proofs.FarmLemmas.{running_in}
use Rattle.farm_core.proofs.farm.Farm.account.Goals as goal

pub returns-clause-covered : goal.returns-clause-covered
returns-clause-covered g c =
    (running_in c.args.self.now c.args.tenant (vec_capacity c.self.inside.journal) (subst (λ (x : World). IsFarm x (vec_capacity c.self.inside.journal)) c.self.view_is c.self.invariant.0) c.requires).covered
