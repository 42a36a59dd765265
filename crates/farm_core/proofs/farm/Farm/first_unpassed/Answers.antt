use Rattle.std.proofs.Common.{Some, ap, ◌∙◌, subst}
use Rattle.job_table.specs.Table.{AreWaiting, behind}
use Rattle.farm_core.specs.World.{World, table_of}
use Rattle.farm_core.specs.Farm.{ArePassed}
use Rattle.farm_core.proofs.NextLemmas.{behind_passed}
use Rattle.farm_core.proofs.farm.Farm.first_unpassed.Goals as goal

pub returns-in-Some : goal.returns-in-Some
returns-in-Some g c =
    let are : AreWaiting (table_of c.args.self.now) = subst (λ (x : World). AreWaiting (table_of x)) c.self.view_is c.next_waiting.ensures.waiting in
    let it : ArePassed c.args.self.now (Some (c.in-Some.tenant, c.in-Some.seq)) = subst (ArePassed c.args.self.now) c.in-Some.is (subst (λ (x : World). ArePassed x c.self.inside.passed) c.self.view_is c.self.invariant.2) in
    behind_passed c.args.self.now c.in-Some.tenant c.in-Some.seq c.next_waiting.result are it (c.next_waiting.ensures.key ∙ ap (λ (x : World). behind c.in-Some.tenant c.in-Some.seq x.waiting) c.self.view_is)
