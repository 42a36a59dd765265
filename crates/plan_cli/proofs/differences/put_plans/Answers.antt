use Rattle.std.proofs.Common.{◌≡◌, ◌++◌, codes, string_bytes, subst, sym, ap, ◌∙◌, append_assoc}
use Rattle.mrcpsp.specs.Project.{ProjectData}
use Rattle.plan_cli.specs.Moves.{plan_line}
use Rattle.plan_cli.proofs.differences.put_plans.Goals as goal

-- both schedules are of one project
pub returns : goal.returns
returns c =
    let p = c.args.before.now.project.now in
    let first = plan_line (codes "before") p c.args.before.now.schedule.now c.args.breaches.0 in
    let second = plan_line (codes "after") p c.args.after.now.schedule.now c.args.breaches.1 in
    let line : string_bytes c.put_plan-2.new.text ≡ string_bytes c.put_plan.new.text ++ second =
    subst (λ (q : ProjectData). string_bytes c.put_plan-2.new.text ≡ string_bytes c.put_plan.new.text ++ plan_line (codes "after") q c.args.after.now.schedule.now c.args.breaches.1) (sym c.requires) c.in_ok-put_plan-2.ensures in
    line ∙ ap (λ l. l ++ second) c.in_ok-put_plan.ensures ∙ append_assoc (string_bytes c.args.text.now) first second
