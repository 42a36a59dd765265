use Rattle.std.proofs.Common.{◌≡◌, ℕ, Option, IfSome, length, cond, None, sym, ap, ◌∙◌, subst}
use Rattle.std.specs.Option.{option_copied}
use Rattle.std.specs.Prelude.{IsTrue}
use Rattle.mrcpsp.specs.Project.{size, is_project}
use Rattle.mrcpsp.specs.Schedule.{ScheduleData}
use Rattle.strategy.specs.Outcome.{best_after}
use Rattle.strategy.specs.declared.plan.Plan.{Plan}
use Rattle.job_table.specs.Lent.{WorkData}
use Rattle.job_table.specs.Job.{HasSize}
use Rattle.job_table.proofs.JobLemmas.{best_sized}
use Rattle.job_table.proofs.job.Work.take_back.Goals as goal

pub copy-requires-clause-shown : goal.copy-requires-clause-shown
copy-requires-clause-shown g c =
    let m = g.J.Strategy.meaning c.args.search in
    let own : m.plan ≡ c.self.inside.plan = c.requires.plan ∙ ap (λ (w : WorkData _). w.plan) (sym c.self.view_is) in
    let planned : IsTrue (is_project m.plan.project) = subst (λ (p : Plan). IsTrue (is_project p.project)) (sym own) c.self.invariant.planned in
    let shown : option_copied c.best.result ≡ best_after m.plan m.nodes = c.best.ensures ∙ ap (λ b. cond b None (best_after m.plan m.nodes)) c.requires.best in
    let count : size m.plan.project ≡ length c.self.inside.best.schedule.modes = ap (λ (p : Plan). size p.project) own ∙ sym c.self.invariant.sized.modes in
    subst (λ (n : ℕ). IfSome (option_copied c.best.result) (HasSize n)) count
    (subst (λ (o : Option ScheduleData). IfSome o (HasSize (size m.plan.project))) (sym shown) (best_sized m.plan m.nodes planned))
