use Rattle.std.proofs.Common.{IfSome, subst}
use Rattle.schedule_files.specs.ScheduleText.{Tells}
use Rattle.plan_cli.proofs.PlanLemmas.{is_plan_ok}
use Rattle.plan_cli.proofs.plan.read_plan.Goals as goal

pub returns-clause-plan : goal.returns-clause-plan
returns-clause-plan c =
    let told = subst (λ found. IfSome found (Tells c.args.text.now)) c.in-Some.is c.in-Ok.ensures.told in
    is_plan_ok c.args.project.now c.in-Some.schedule c.args.text.now c.planned.result told c.planned.ensures.plan
