use Rattle.std.proofs.Common.{ℕ, refl, ap, ◌∙◌, Option}
use Rattle.std.specs.Prelude.{is_some}
use Rattle.strategy.specs.Outcome.{best_after, final_verdict}
use Rattle.strategy.specs.declared.kind.Kind.{Kind}
use Rattle.strategy.specs.declared.verdict.Verdict.TheVariants.{Going, Optimal}
use Rattle.paid_search.proofs.PaidLemmas.{verdict_from, some_mapped}
use Rattle.paid_search.proofs.shown.verdict_by.Goals as goal

pub returns-then-is_at_bound : goal.returns-then-is_at_bound
returns-then-is_at_bound c plan k kind length bound all =
    verdict_from plan k c.is_at_bound.result c.args.all_run Optimal (c.is_at_bound.ensures plan.project (best_after plan k) length bound) all
    (rw c.if-is_at_bound.true refl)

pub returns-then-all_run : goal.returns-then-all_run
returns-then-all_run c plan k kind length bound all =
    verdict_from plan k c.is_at_bound.result c.args.all_run c.final_verdict.result (c.is_at_bound.ensures plan.project (best_after plan k) length bound) all
    (rw (c.if-is_at_bound.false, c.if-all_run.true)
    (c.final_verdict.ensures (best_after plan k) (c.is_some.ensures ∙ ap (λ (n : Option ℕ). is_some n) length ∙ some_mapped (best_after plan k) plan.project) ∙ ap (λ (x : Kind). final_verdict x (best_after plan k)) kind))

pub returns-else-all_run : goal.returns-else-all_run
returns-else-all_run c plan k kind length bound all =
    verdict_from plan k c.is_at_bound.result c.args.all_run Going (c.is_at_bound.ensures plan.project (best_after plan k) length bound) all
    (rw (c.if-is_at_bound.false, c.if-all_run.false) refl)
