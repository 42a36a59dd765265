-- Why what a search shows is true. The tree is the precedence tree (Sprecher and Drexl 1998).
use Rattle.std.specs.Prelude.{◌≡◌, ℕ, ◌≤◌, true, cond, IsTrue, MatchOption, IfSome, IsSomeAnd, Some}
use Rattle.mrcpsp.specs.Project.{is_project}
use Rattle.mrcpsp.specs.Schedule.{ScheduleData, IsFeasible, IsOptimal, IsInfeasible, makespan}
use Rattle.mrcpsp.specs.Values.{bound}
use Rattle.mrcpsp.specs.Breach.{HasShape}
use Rattle.strategy.specs.Outcome.{all_run, final_verdict, best_after, is_closed, verdict_after}
use Rattle.strategy.specs.declared.plan.Plan.{Plan}
use Rattle.strategy.specs.declared.kind.Kind.TheVariants.{Tree}
use Rattle.strategy.specs.declared.verdict.Verdict.TheVariants.{Going, Optimal, Infeasible}

-- a tree that is over has an optimal schedule and shows 'optimal', or nothing is feasible and it
-- shows 'infeasible'
abbrev pub ClosedTreeDecides : Type 0
ClosedTreeDecides = (plan : Plan) → IsTrue (is_project plan.project) → plan.kind ≡ Tree → (k : ℕ) → IsTrue (is_closed plan k) →
    MatchOption (best_after plan k) ((verdict_after plan k ≡ Infeasible) × IsInfeasible plan.project) (λ s. (verdict_after plan k ≡ Optimal) × IsOptimal plan.project s)

-- the best schedule of each kind of search, after any number of nodes, is feasible
abbrev pub BestIsFeasible : Type 0
BestIsFeasible = (plan : Plan) → IsTrue (is_project plan.project) → (k : ℕ) →
    IfSome (best_after plan k) (λ s. IsFeasible plan.project s)

-- the best schedule has a mode and a start for each activity, each start by period 1,000,000,000
abbrev pub BestHasShape : Type 0
BestHasShape = (plan : Plan) → IsTrue (is_project plan.project) → (k : ℕ) →
    IfSome (best_after plan k) (λ s. HasShape plan.project s)

-- 'optimal' is shown only if the best schedule is optimal
abbrev pub OptimalIsTrue : Type 0
OptimalIsTrue = (plan : Plan) → IsTrue (is_project plan.project) → (k : ℕ) → verdict_after plan k ≡ Optimal →
    IsSomeAnd (best_after plan k) (λ s. IsOptimal plan.project s)

-- 'infeasible' is shown only if no schedule is feasible
abbrev pub InfeasibleIsTrue : Type 0
InfeasibleIsTrue = (plan : Plan) → IsTrue (is_project plan.project) → (k : ℕ) → verdict_after plan k ≡ Infeasible →
    IsInfeasible plan.project

-- 'infeasible' is shown by the tree alone
abbrev pub OnlyTreesShowInfeasible : Type 0
OnlyTreesShowInfeasible = (plan : Plan) (k : ℕ) → verdict_after plan k ≡ Infeasible → plan.kind ≡ Tree

-- a search stops at its first schedule with the bound: from then on it has that schedule, is over
-- and shows 'optimal'
abbrev pub StopsAtBound : Type 0
StopsAtBound = (plan : Plan) → IsTrue (is_project plan.project) → (stop : ℕ) (s : ScheduleData) → best_after plan stop ≡ Some s → makespan plan.project s ≡ bound plan.project →
    (k : ℕ) → stop ≤ k → (best_after plan k ≡ Some s) × (is_closed plan k ≡ true) × (verdict_after plan k ≡ Optimal)

-- a search without a schedule at the bound is over once all its nodes have run, and shows their
-- verdict
abbrev pub EndsWithItsNodes : Type 0
EndsWithItsNodes = (plan : Plan) → IsTrue (is_project plan.project) → (k : ℕ) → ((s : ScheduleData) → best_after plan k ≡ Some s → makespan plan.project s ≡ bound plan.project → ⊥) →
    (is_closed plan k ≡ all_run plan.project plan.kind k) × (verdict_after plan k ≡ cond (all_run plan.project plan.kind k) (final_verdict plan.kind (best_after plan k)) Going)

-- a search that is over stays over
abbrev pub ClosedStays : Type 0
ClosedStays = (plan : Plan) → IsTrue (is_project plan.project) → (k l : ℕ) → k ≤ l → is_closed plan k ≡ true → is_closed plan l ≡ true
