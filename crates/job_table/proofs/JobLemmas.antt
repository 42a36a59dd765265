-- What a job keeps, when it comes and as it is read.
use Rattle.std.proofs.Common.{◌≡◌, ℕ, zero, suc, ◌<◌, ◌/◌, Bool, true, false, cond, nat_lt, List, [], ◌∷◌, ◌++◌, length, Option, Some, None, IfSome, option_map, refl, sym, ap, arith}
use Rattle.std.specs.Prelude.{IsTrue}
use Rattle.std.proofs.lemmas.Bool.{cond-true, lt-ltb, lt-leb}
use Rattle.mrcpsp.specs.Project.{ProjectData, size, is_project}
use Rattle.mrcpsp.specs.Placed.{Placed}
use Rattle.mrcpsp.proofs.EarliestLemmas.{eligible-from}
use Rattle.mrcpsp.proofs.ProjectLemmas.{precedes-rising}
use Rattle.strategy.specs.Candidate.{Candidate}
use Rattle.strategy.proofs.TreeLemmas.{In, candidates-In}
use Rattle.mrcpsp.specs.Schedule.{ScheduleData, IsFeasible, makespan}
use Rattle.mrcpsp.specs.Breach.{HasShape, HasModes}
use Rattle.mrcpsp.proofs.LimitLemmas.{kept}
use Rattle.strategy.specs.Pass.{pass}
use Rattle.strategy.specs.Outcome.{best_pass, best_of, best_after, all_run, is_closed}
use Rattle.strategy.specs.declared.plan.Plan.{Plan}
use Rattle.strategy.specs.declared.kind.Kind.{Kind}
use Rattle.strategy.specs.declared.kind.Kind.TheVariants.{Tree, RuleLft, RuleMts, RuleSpt, Sample}
use Rattle.strategy.specs.declared.verdict.Verdict.TheVariants.{Going}
use Rattle.strategy.specs.Tree as tree
use Rattle.strategy.proofs.OutcomeLemmas.{each_best, each_shaped, going_verdict}
use Rattle.job_table.specs.declared.best.Best.{Best}
use Rattle.job_table.specs.Job.{HasSize, IsSound}

best_is : {best : Option ScheduleData} (P : ScheduleData → Type 0) (s : ScheduleData) → Some s ≡ best → IfSome best P → P s
best_is P s e h = rw (← e) at h

pub best_shaped : (plan : Plan) (k : ℕ) (s : ScheduleData) → IsTrue (is_project plan.project) → Some s ≡ best_after plan k → HasShape plan.project s
best_shaped plan k s ok e = best_is (HasShape plan.project) s e (each_shaped plan ok k)

pub best_moded : (plan : Plan) (k : ℕ) (s : ScheduleData) → IsTrue (is_project plan.project) → Some s ≡ best_after plan k → HasModes plan.project s
best_moded plan k s ok e = (best_is (IsFeasible plan.project) s e (each_best plan ok k)).modes_exist

none_at_start : (p : ProjectData) (kind : Kind) → 0 < size p → best_of p kind 0 ≡ None
unfolding tree.tree_best_after best_pass
none_at_start p Tree some = refl
none_at_start p RuleLft some = cond-true (nat_lt 0 (size p)) None (pass p RuleLft 0) (lt-ltb 0 (size p) some)
none_at_start p RuleMts some = cond-true (nat_lt 0 (size p)) None (pass p RuleMts 0) (lt-ltb 0 (size p) some)
none_at_start p RuleSpt some = cond-true (nat_lt 0 (size p)) None (pass p RuleSpt 0) (lt-ltb 0 (size p) some)
none_at_start p (Sample seed) some = let none : 0 / size p ≡ 0 = omega arith in rw none refl

pub best_at_start : (plan : Plan) → IsTrue (is_project plan.project) → best_after plan 0 ≡ None
unfolding best_after
best_at_start plan ok = none_at_start plan.project plan.kind (kept plan.project ok).some

-- a candidate has a node, and so has a list of candidates that is not empty
some_of_two : {X : Type 0} (b : Bool) (x y : X) (ys : List X) → 0 < length (cond b (x ∷ []) (y ∷ ys))
some_of_two true x y ys = omega arith
some_of_two false x y ys = omega arith

one_visited : (below : tree.Below) (p : ProjectData) (placed : List Placed) (c : Candidate) (best : Option ScheduleData) → 0 < length (tree.visit_one below p placed c best)
unfolding tree.visit_one
one_visited below p placed c best =
    let place = tree.placing p placed c in
    let next = placed ++ place ∷ [] in
    let kept = tree.updated p next best in
    some_of_two (tree.is_pruned p placed c best) (record { place = place; pruned = true; best = best }) (record { place = place; pruned = false; best = kept }) (below next kept)

longer : {X : Type 0} (xs ys : List X) → 0 < length xs → 0 < length (xs ++ ys)
longer [] ys some = omega (arith, some)
longer (x ∷ xs) ys some = omega arith

all_visited : (below : tree.Below) (p : ProjectData) (placed : List Placed) (c : Candidate) (cs : List Candidate) (best : Option ScheduleData) → In cs c → 0 < length (tree.visit_all below p placed cs best)
all_visited below p placed c [] best h = absurd h
all_visited below p placed c (d ∷ ds) best h = longer (tree.visit_one below p placed d best) _ (one_visited below p placed d best)

-- where nothing is placed, the first activity is a candidate: so a tree has a node
some_visited : (p : ProjectData) (n : ℕ) → size p ≡ suc n → IsTrue (is_project p) → 0 < length (tree.visits p (suc n) [] None)
some_visited p n sized ok =
    let is = kept p ok in
    let some : 0 < size p = is.some in
    all_visited (tree.visits p n) p [] (record { activity = 0; mode = 0 }) (tree.candidates p []) None
    (candidates-In p [] 0 0 some (is.moded 0 some).0
    (eligible-from p [] 0 refl (λ i inside before. absurd (let rising : i < 0 = (precedes-rising p i 0 is before).0 in omega arith))))

tree_at_start : (p : ProjectData) (n : ℕ) → size p ≡ n → IsTrue (is_project p) → 0 < length (tree.visits p n [] None)
tree_at_start p zero sized ok = absurd (let some : 0 < size p = (kept p ok).some in omega arith)
tree_at_start p (suc n) sized ok = some_visited p n sized ok

goes_at_start : (p : ProjectData) (kind : Kind) → IsTrue (is_project p) → all_run p kind 0 ≡ false
unfolding tree.is_tree_over tree.all_visits
goes_at_start p Tree ok = lt-leb (length (tree.visits p (size p) [] None)) 0 (tree_at_start p (size p) refl ok)
goes_at_start p RuleLft ok = lt-leb (size p) 0 (kept p ok).some
goes_at_start p RuleMts ok = lt-leb (size p) 0 (kept p ok).some
goes_at_start p RuleSpt ok = lt-leb (size p) 0 (kept p ok).some
goes_at_start p (Sample seed) ok = refl

-- a search that has run nothing is not over
pub fresh_goes : (plan : Plan) → IsTrue (is_project plan.project) → is_closed plan 0 ≡ false
unfolding is_closed
fresh_goes plan ok = rw (best_at_start plan ok) (goes_at_start plan.project plan.kind ok)

pub sound_fresh : (plan : Plan) (best : Best) → IsTrue (is_project plan.project) → is_closed plan 0 ≡ false → best.found ≡ false → HasSize (size plan.project) best.schedule
    → IsSound plan 0 best None Going
sound_fresh plan best ok going none sized = record {
  planned = ok;
  shows = rw none (sym (best_at_start plan ok));
  lasts = sym (ap (option_map (makespan plan.project)) (best_at_start plan ok));
  sized = sized;
  judges = sym (going_verdict plan 0 going);
}

sized_of : (p : ProjectData) (best : Option ScheduleData) → IfSome best (HasShape p) → IfSome best (HasSize (size p))
sized_of p None h = tt
sized_of p (Some s) h = record { modes = h.modes; starts = h.starts }

pub best_sized : (plan : Plan) (k : ℕ) → IsTrue (is_project plan.project) → IfSome (best_after plan k) (HasSize (size plan.project))
best_sized plan k ok = sized_of plan.project (best_after plan k) (each_shaped plan ok k)
