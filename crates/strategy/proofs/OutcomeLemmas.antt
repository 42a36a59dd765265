-- What each kind of search shows is true.
use Rattle.std.proofs.Common.{◌≡◌, ℕ, ◌/◌, ◌<◌, ◌≤◌, ◌||◌, Bool, true, false, cond, nat_lt, length, Option, Some, None, IfSome, MatchOption, refl, sym, ap, subst, ◌∙◌, arith, le_trans, le_of_eq, inl, inr, ⊎_elim}
use Rattle.std.specs.Prelude.{IsSomeAnd, is_some}
use Rattle.std.proofs.lemmas.Bool.{cond_both, cond-true, cond-false, leb-true, le-leb, lt-leb, cases_lt, or_left, or_right, or_cases, or_parts, false≢true}
use Rattle.mrcpsp.specs.Project.{ProjectData, size}
use Rattle.mrcpsp.specs.Schedule.{ScheduleData, IsFeasible, IsOptimal, IsInfeasible, makespan}
use Rattle.mrcpsp.specs.Values.{bound}
use Rattle.mrcpsp.proofs.ProjectLemmas.{bound-le}
use Rattle.mrcpsp.specs.Breach.{HasShape}
use Rattle.mrcpsp.specs.Limits.{IsProject}
use Rattle.mrcpsp.proofs.LimitLemmas.{kept}
use Rattle.strategy.specs.Tree as tree
use Rattle.strategy.specs.Pass.{pass}
use Rattle.strategy.specs.Outcome.{rule_best, best_of, all_run, is_at_bound, final_verdict, best_after, is_closed, verdict_after}
use Rattle.strategy.specs.Laws.{ClosedTreeDecides, BestIsFeasible, BestHasShape, OptimalIsTrue, InfeasibleIsTrue, OnlyTreesShowInfeasible, StopsAtBound, EndsWithItsNodes, ClosedStays}
use Rattle.strategy.specs.declared.kind.Kind.{Kind}
use Rattle.strategy.specs.declared.kind.Kind.TheVariants.{Tree, RuleLft, RuleMts, RuleSpt, Sample}
use Rattle.strategy.specs.declared.verdict.Verdict.{Verdict}
use Rattle.strategy.specs.declared.verdict.Verdict.TheVariants.{Going, Optimal, Infeasible, Ended}
use Rattle.strategy.specs.declared.plan.Plan.{Plan}
use Rattle.strategy.proofs.LawLemmas.{Good, best_is_fine, closed_decides}
use Rattle.strategy.proofs.LaterLemmas.{IsLater, best-later}
use Rattle.strategy.proofs.PassLemmas.{pass-feasible, best_pass-feasible}

rule-good : (p : ProjectData) → IsProject p → (kind : Kind) (k : ℕ) → Good p (rule_best p kind k)
rule-good p ok kind k = cond_both (nat_lt k (size p)) None (pass p kind 0) (Good p) (λ _. tt) (λ _. pass-feasible p ok kind 0)

good-of : (p : ProjectData) → IsProject p → (kind : Kind) (k : ℕ) → Good p (best_of p kind k)
good-of p ok Tree k = best_is_fine p ok k
good-of p ok RuleLft k = rule-good p ok RuleLft k
good-of p ok RuleMts k = rule-good p ok RuleMts k
good-of p ok RuleSpt k = rule-good p ok RuleSpt k
good-of p ok (Sample seed) k = best_pass-feasible p ok (Sample seed) (k / size p)

feasible-of : (p : ProjectData) (best : Option ScheduleData) → Good p best → IfSome best (λ s. IsFeasible p s)
feasible-of p None h = tt
feasible-of p (Some s) h = h.0

shaped-of : (p : ProjectData) (best : Option ScheduleData) → Good p best → IfSome best (λ s. HasShape p s)
shaped-of p None h = tt
shaped-of p (Some s) h = h.1

pub each_best : BestIsFeasible
unfolding best_after
each_best plan ok k = feasible-of plan.project (best_of plan.project plan.kind k) (good-of plan.project (kept plan.project ok) plan.kind k)

pub each_shaped : BestHasShape
unfolding best_after
each_shaped plan ok k = shaped-of plan.project (best_of plan.project plan.kind k) (good-of plan.project (kept plan.project ok) plan.kind k)

-- what a verdict means for the search that shows it
abbrev Tells : ProjectData → Option ScheduleData → Verdict → Type 0
Tells p best Going = Unit {0}
Tells p best Optimal = IsSomeAnd best (λ s. IsOptimal p s)
Tells p best Infeasible = IsInfeasible p
Tells p best Ended = Unit {0}

-- what is as short as the bound is optimal
bound_decides : (p : ProjectData) → IsProject p → (best : Option ScheduleData) → Good p best → is_at_bound p best ≡ true → IsSomeAnd best (λ s. IsOptimal p s)
bound_decides p ok None h e = absurd (false≢true e)
bound_decides p ok (Some s) h e = record { feasible = h.0; least = λ other feasible. le_trans (leb-true (makespan p s) (bound p) e) (bound-le p other ok feasible) }

final-tells : (p : ProjectData) (best : Option ScheduleData) → MatchOption best (IsInfeasible p) (λ s. IsOptimal p s) → Tells p best (cond (is_some best) Optimal Infeasible)
final-tells p None h = h
final-tells p (Some s) h = h

-- what a search shows before its best schedule is as short as the bound
run-tells : (p : ProjectData) → IsProject p → (kind : Kind) (k : ℕ) → Tells p (best_of p kind k) (cond (all_run p kind k) (final_verdict kind (best_of p kind k)) Going)
run-tells p ok Tree k = cond_both (tree.is_tree_over p k) (cond (is_some (tree.tree_best_after p k)) Optimal Infeasible) Going (Tells p (tree.tree_best_after p k)) (λ closed. final-tells p (tree.tree_best_after p k) (closed_decides p ok k closed)) (λ _. tt)
run-tells p ok RuleLft k = cond_both (all_run p RuleLft k) Ended Going (Tells p (best_of p RuleLft k)) (λ _. tt) (λ _. tt)
run-tells p ok RuleMts k = cond_both (all_run p RuleMts k) Ended Going (Tells p (best_of p RuleMts k)) (λ _. tt) (λ _. tt)
run-tells p ok RuleSpt k = cond_both (all_run p RuleSpt k) Ended Going (Tells p (best_of p RuleSpt k)) (λ _. tt) (λ _. tt)
run-tells p ok (Sample seed) k = tt

verdict-tells : (p : ProjectData) → IsProject p → (kind : Kind) (k : ℕ)
    → Tells p (best_of p kind k) (cond (is_at_bound p (best_of p kind k)) Optimal (cond (all_run p kind k) (final_verdict kind (best_of p kind k)) Going))
verdict-tells p ok kind k =
    cond_both (is_at_bound p (best_of p kind k)) Optimal (cond (all_run p kind k) (final_verdict kind (best_of p kind k)) Going) (Tells p (best_of p kind k))
    (bound_decides p ok (best_of p kind k) (good-of p ok kind k))
    (λ _. run-tells p ok kind k)

pub optimal_is_true : OptimalIsTrue
unfolding verdict_after best_after
optimal_is_true plan ok k e =
    let tells = verdict-tells plan.project (kept plan.project ok) plan.kind k in
    rw e at tells

pub infeasible_is_true : InfeasibleIsTrue
unfolding verdict_after best_after
infeasible_is_true plan ok k e =
    let tells = verdict-tells plan.project (kept plan.project ok) plan.kind k in
    rw e at tells

-- ---- 'infeasible' by the tree alone

not_infeasible : (at_bound all : Bool) → cond at_bound Optimal (cond all Ended Going) ≡ Infeasible → ⊥
not_infeasible true all e = cc
not_infeasible false true e = cc
not_infeasible false false e = cc

tree-alone : (p : ProjectData) (kind : Kind) (k : ℕ) → cond (is_at_bound p (best_of p kind k)) Optimal (cond (all_run p kind k) (final_verdict kind (best_of p kind k)) Going) ≡ Infeasible → kind ≡ Tree
tree-alone p Tree k h = refl
tree-alone p RuleLft k h = absurd (not_infeasible (is_at_bound p (best_of p RuleLft k)) (all_run p RuleLft k) h)
tree-alone p RuleMts k h = absurd (not_infeasible (is_at_bound p (best_of p RuleMts k)) (all_run p RuleMts k) h)
tree-alone p RuleSpt k h = absurd (not_infeasible (is_at_bound p (best_of p RuleSpt k)) (all_run p RuleSpt k) h)
tree-alone p (Sample seed) k h = absurd (not_infeasible (is_at_bound p (best_of p (Sample seed) k)) false h)

pub only_trees_show_infeasible : OnlyTreesShowInfeasible
unfolding verdict_after best_after
only_trees_show_infeasible plan k h = tree-alone plan.project plan.kind k h

-- ---- a tree that is over

-- over by the bound, and over by its last node
tree-told : (p : ProjectData) (best : Option ScheduleData) (at_bound all : Bool) → (at_bound ≡ true → IsSomeAnd best (λ s. IsOptimal p s)) → (all ≡ true → MatchOption best (IsInfeasible p) (λ s. IsOptimal p s)) → (at_bound || all) ≡ true
    → let verdict = cond at_bound Optimal (cond all (cond (is_some best) Optimal Infeasible) Going) in MatchOption best ((verdict ≡ Infeasible) × IsInfeasible p) (λ s. (verdict ≡ Optimal) × IsOptimal p s)
tree-told p None true all bounded whole over = absurd (bounded refl)
tree-told p None false true bounded whole over = (refl, whole refl)
tree-told p None false false bounded whole over = absurd (false≢true over)
tree-told p (Some s) true all bounded whole over = (refl, bounded refl)
tree-told p (Some s) false true bounded whole over = (refl, whole refl)
tree-told p (Some s) false false bounded whole over = absurd (false≢true over)

abbrev TreeDecides : Plan → Kind → ℕ → Type 0
TreeDecides plan kind k =
    let p = plan.project in
    let best = best_of p kind k in
    let verdict = cond (is_at_bound p best) Optimal (cond (all_run p kind k) (final_verdict kind best) Going) in
    (is_at_bound p best || all_run p kind k) ≡ true → MatchOption best ((verdict ≡ Infeasible) × IsInfeasible p) (λ s. (verdict ≡ Optimal) × IsOptimal p s)

pub tree_decides : ClosedTreeDecides
unfolding best_after is_closed verdict_after
tree_decides plan ok of_tree k closed =
    let p = plan.project in
    let best = tree.tree_best_after p k in
    let project = kept p ok in
    let told : TreeDecides plan Tree k = tree-told p best (is_at_bound p best) (tree.is_tree_over p k) (bound_decides p project best (best_is_fine p project k)) (closed_decides p project k) in
    subst (λ kind. TreeDecides plan kind k) (sym of_tree) told closed

-- ---- the stop at the bound

-- what is as short as the bound gives way to nothing
bound-kept : (p : ProjectData) → IsProject p → (best next : Option ScheduleData) → Good p next → IsLater p best next → is_at_bound p best ≡ true → next ≡ best
bound-kept p ok best next good (inl same) e = same
bound-kept p ok None next good (inr (s, is, less)) e = absurd (false≢true e)
bound-kept p ok (Some b) next good (inr (s, is, less)) e =
    let fine : Good p (Some s) = subst (Good p) is good in
    absurd (let low : bound p ≤ makespan p s = bound-le p s ok fine.0 in let high : makespan p b ≤ bound p = leb-true (makespan p b) (bound p) e in let under : makespan p s < makespan p b = less in omega arith)

pub stops_at_bound : StopsAtBound
unfolding best_after is_closed verdict_after
stops_at_bound plan ok stop s found short k after =
    let p = plan.project in
    let project = kept p ok in
    let was : is_at_bound p (best_of p plan.kind stop) ≡ true = ap (is_at_bound p) found ∙ le-leb (makespan p s) (bound p) (le_of_eq short) in
    let same : best_of p plan.kind k ≡ best_of p plan.kind stop = bound-kept p project (best_of p plan.kind stop) (best_of p plan.kind k) (good-of p project plan.kind k) (best-later p project plan.kind stop k after) was in
    let is : is_at_bound p (best_of p plan.kind k) ≡ true = ap (is_at_bound p) same ∙ was in
    (same ∙ found, or_left (is_at_bound p (best_of p plan.kind k)) (all_run p plan.kind k) is, cond-true (is_at_bound p (best_of p plan.kind k)) Optimal _ is)

-- a best schedule that has not the bound is longer
not-at-bound : (p : ProjectData) → IsProject p → (best : Option ScheduleData) → Good p best → ((s : ScheduleData) → best ≡ Some s → makespan p s ≡ bound p → ⊥) → is_at_bound p best ≡ false
not-at-bound p ok None good longer = refl
not-at-bound p ok (Some s) good longer =
    let low : bound p ≤ makespan p s = bound-le p s ok good.0 in
    ⊎_elim
    (λ (above : bound p < makespan p s). lt-leb (makespan p s) (bound p) above)
    (λ (within : makespan p s ≤ bound p). absurd (longer s refl (omega (arith, low, within))))
    (cases_lt (bound p) (makespan p s))

pub ends_with_its_nodes : EndsWithItsNodes
unfolding best_after is_closed verdict_after
ends_with_its_nodes plan ok k longer =
    let p = plan.project in
    let project = kept p ok in
    let best = best_of p plan.kind k in
    let not : is_at_bound p best ≡ false = not-at-bound p project best (good-of p project plan.kind k) longer in (
      ap (λ b. b || all_run p plan.kind k) not,
      cond-false (is_at_bound p best) Optimal (cond (all_run p plan.kind k) (final_verdict plan.kind best) Going) not,
    )

run-stays : (p : ProjectData) (kind : Kind) (k l : ℕ) → k ≤ l → all_run p kind k ≡ true → all_run p kind l ≡ true
unfolding tree.is_tree_over
run-stays p Tree k l h e = le-leb (length (tree.all_visits p)) l (le_trans (leb-true (length (tree.all_visits p)) k e) h)
run-stays p RuleLft k l h e = le-leb (size p) l (le_trans (leb-true (size p) k e) h)
run-stays p RuleMts k l h e = le-leb (size p) l (le_trans (leb-true (size p) k e) h)
run-stays p RuleSpt k l h e = le-leb (size p) l (le_trans (leb-true (size p) k e) h)
run-stays p (Sample seed) k l h e = e

pub closed_stays : ClosedStays
unfolding best_after is_closed
closed_stays plan ok k l h closed =
    let p = plan.project in
    let project = kept p ok in
    ⊎_elim
    (λ (at : is_at_bound p (best_of p plan.kind k) ≡ true).
    let same : best_of p plan.kind l ≡ best_of p plan.kind k = bound-kept p project (best_of p plan.kind k) (best_of p plan.kind l) (good-of p project plan.kind l) (best-later p project plan.kind k l h) at in
    or_left (is_at_bound p (best_of p plan.kind l)) (all_run p plan.kind l) (ap (is_at_bound p) same ∙ at))
    (λ (all : all_run p plan.kind k ≡ true). or_right (is_at_bound p (best_of p plan.kind l)) (all_run p plan.kind l) (run-stays p plan.kind k l h all))
    (or_cases (is_at_bound p (best_of p plan.kind k)) (all_run p plan.kind k) closed)

-- a search that is not over is going
pub going_verdict : (plan : Plan) (k : ℕ) → is_closed plan k ≡ false → verdict_after plan k ≡ Going
unfolding is_closed verdict_after
going_verdict plan k going =
    let p = plan.project in
    let parts = or_parts (is_at_bound p (best_after plan k)) (all_run p plan.kind k) going in
    cond-false (is_at_bound p (best_after plan k)) Optimal _ parts.0 ∙ cond-false (all_run p plan.kind k) (final_verdict plan.kind (best_after plan k)) Going parts.1
