-- What several searches have found together: it is true, and that of one search is its own.
use Rattle.std.proofs.Common.{◌≡◌, ◌<◌, ◌≤◌, ℕ, ◌+◌, arith, refl, sym, ◌∙◌, le_trans, min, ◌⊎◌, ⊎_elim, cond, nat_lt, true, false, IsTrue, subst, get_or, drop, drop-cons, add-one, length, List, [], ◌∷◌, Option, Some, None, IfSome, option_map, fold, zero-add, inl, inr}
use Rattle.std.specs.Prelude.{IsSomeAnd}
use Rattle.std.proofs.lemmas.List.{drop_all}
use Rattle.std.proofs.lemmas.Bool.{cond_both, ltb-true, ltb-false, leb-true, false≢true}
use Rattle.mrcpsp.specs.Project.{ProjectData, is_project}
use Rattle.mrcpsp.specs.Schedule.{ScheduleData, IsFeasible, IsOptimal, IsInfeasible, makespan}
use Rattle.mrcpsp.specs.Values.{bound}
use Rattle.mrcpsp.proofs.ProjectLemmas.{bound-le}
use Rattle.mrcpsp.proofs.LimitLemmas.{kept}
use Rattle.strategy.specs.Outcome.{better, is_at_bound}
use Rattle.strategy.specs.declared.plan.Plan.{Plan}
use Rattle.strategy.specs.declared.kind.Kind.{Kind}
use Rattle.strategy.specs.declared.verdict.Verdict.{Verdict}
use Rattle.strategy.specs.declared.verdict.Verdict.TheVariants.{Going, Optimal, Infeasible, Ended}
use Rattle.strategy.proofs.OutcomeLemmas.{each_best, optimal_is_true, infeasible_is_true}
use Rattle.solve_cli.specs.Found.{IsFound}
use Rattle.solve_cli.specs.Improved.{IsImproved, can_all_run}
use Rattle.solve_cli.proofs.ExecutableLemmas.{stuck_is_infeasible}
use Rattle.solve_cli.specs.Portfolio.{is_decided, stronger, joined, nothing, is_shorter, IsFoundBy, AreFound, IsFoundByEach, IsTrueOf}
use Rattle.solve_cli.specs.Laws.{SeveralAreTrue, OneIsItself}
use Rattle.solve_cli.specs.declared.search_kinds.SearchKind.{SearchKind}
use Rattle.solve_cli.specs.declared.search_kinds.SearchKind.TheVariants.{Planned, Improve, Prove}
use Rattle.solve_cli.specs.declared.search_result.SearchResult.{SearchResult}
use Rattle.solve_cli.proofs.SearchLemmas.{found_few}

-- the better one is the shorter one
pub better_is : (p : ProjectData) (one other : Option ScheduleData) → better p one other ≡ cond (is_shorter (option_map (makespan p) one) (option_map (makespan p) other)) other one
better_is p None None = refl
better_is p None (Some s) = refl
better_is p (Some best) None = refl
better_is p (Some best) (Some s) = refl

better_feasible : (p : ProjectData) (one other : Option ScheduleData) → IfSome one (IsFeasible p) → IfSome other (IsFeasible p) → IfSome (better p one other) (IsFeasible p)
better_feasible p one None f g = f
better_feasible p None (Some s) f g = g
better_feasible p (Some best) (Some s) f g =
    cond_both (nat_lt (makespan p s) (makespan p best)) (Some s) (Some best) (λ o. IfSome o (IsFeasible p)) (λ _. g) (λ _. f)

better_than_optimal : (p : ProjectData) (one other : Option ScheduleData) → IsSomeAnd one (IsOptimal p) → IfSome other (IsFeasible p) → IsSomeAnd (better p one other) (IsOptimal p)
better_than_optimal p None other h g = absurd h
better_than_optimal p (Some best) None h g = h
better_than_optimal p (Some best) (Some s) h g =
    cond_both (nat_lt (makespan p s) (makespan p best)) (Some s) (Some best) (λ o. IsSomeAnd o (IsOptimal p))
    (λ e. record { feasible = g; least = λ t ft. let l : makespan p best ≤ makespan p t = h.least t ft in omega (arith, l, ltb-true (makespan p s) (makespan p best) e) })
    (λ _. h)

optimal_is_better : (p : ProjectData) (one other : Option ScheduleData) → IfSome one (IsFeasible p) → IsSomeAnd other (IsOptimal p) → IsSomeAnd (better p one other) (IsOptimal p)
optimal_is_better p one None f h = absurd h
optimal_is_better p None (Some s) f h = h
optimal_is_better p (Some best) (Some s) f h =
    cond_both (nat_lt (makespan p s) (makespan p best)) (Some s) (Some best) (λ o. IsSomeAnd o (IsOptimal p))
    (λ _. h)
    (λ e. record { feasible = f; least = λ t ft. let l : makespan p s ≤ makespan p t = h.least t ft in omega (arith, l, ltb-false (makespan p s) (makespan p best) e) })

stronger_optimal : (v w : Verdict) → stronger v w ≡ Optimal → (v ≡ Optimal) ⊎ (w ≡ Optimal)
stronger_optimal Optimal w e = inl refl
stronger_optimal Infeasible w e = cc
stronger_optimal Going Going e = cc
stronger_optimal Going Optimal e = inr refl
stronger_optimal Going Infeasible e = cc
stronger_optimal Going Ended e = cc
stronger_optimal Ended w e = inr e

stronger_infeasible : (v w : Verdict) → stronger v w ≡ Infeasible → (v ≡ Infeasible) ⊎ (w ≡ Infeasible)
stronger_infeasible Optimal w e = cc
stronger_infeasible Infeasible w e = inl refl
stronger_infeasible Going Going e = cc
stronger_infeasible Going Optimal e = cc
stronger_infeasible Going Infeasible e = inr refl
stronger_infeasible Going Ended e = cc
stronger_infeasible Ended w e = inr e

nothing_true : (p : ProjectData) → IsTrueOf p nothing
nothing_true p = record { feasible = tt; makespan = refl; optimal = λ e. cc; infeasible = λ e. cc }

joined_true : (p : ProjectData) (one other : SearchResult) → IsTrueOf p one → IsTrueOf p other → IsTrueOf p (joined p one other)
joined_true p one other a b = record {
  feasible = better_feasible p one.best other.best a.feasible b.feasible;
  makespan = refl;
  optimal = λ e. ⊎_elim
      (λ x. better_than_optimal p one.best other.best (a.optimal x) b.feasible)
      (λ x. optimal_is_better p one.best other.best a.feasible (b.optimal x))
      (stronger_optimal one.verdict other.verdict e);
  infeasible = λ e. ⊎_elim (λ x. a.infeasible x) (λ x. b.infeasible x) (stronger_infeasible one.verdict other.verdict e);
}

found_true : (plan : Plan) → IsTrue (is_project plan.project) → (most : ℕ) (found : SearchResult) → IsFound plan most found → IsTrueOf plan.project found
found_true plan kept most found is = record {
  feasible = rw is.best (each_best plan kept found.nodes);
  makespan = is.makespan;
  optimal = λ e. rw is.best (optimal_is_true plan kept found.nodes (sym is.verdict ∙ e));
  infeasible = λ e. infeasible_is_true plan kept found.nodes (sym is.verdict ∙ e);
}

-- what is as short as the longest chain is optimal
chain_decides : (p : ProjectData) → IsTrue (is_project p) → (best : Option ScheduleData) → IfSome best (IsFeasible p) → is_at_bound p best ≡ true → IsSomeAnd best (IsOptimal p)
chain_decides p ok None h e = absurd (false≢true e)
chain_decides p ok (Some s) h e = record { feasible = h; least = λ other feasible. le_trans (leb-true (makespan p s) (bound p) e) (bound-le p other (kept p ok) feasible) }

improved_true : (p : ProjectData) → IsTrue (is_project p) → (most : ℕ) (found : SearchResult) → IsImproved p most found → IsTrueOf p found
improved_true p ok most found is = record {
  feasible = is.feasible;
  makespan = is.makespan;
  optimal = λ e. cond_both (can_all_run p) (cond (is_at_bound p found.best) Optimal Going) Infeasible (λ (v : Verdict). v ≡ Optimal → IsSomeAnd found.best (IsOptimal p))
      (λ _. cond_both (is_at_bound p found.best) Optimal Going (λ (v : Verdict). v ≡ Optimal → IsSomeAnd found.best (IsOptimal p))
      (λ at _. chain_decides p ok found.best is.feasible at) (λ _ other. cc)) (λ _ other. cc) (sym is.verdict ∙ e);
  infeasible = λ e. cond_both (can_all_run p) (cond (is_at_bound p found.best) Optimal Going) Infeasible (λ (v : Verdict). v ≡ Infeasible → IsInfeasible p)
      (λ _. cond_both (is_at_bound p found.best) Optimal Going (λ (v : Verdict). v ≡ Infeasible → IsInfeasible p) (λ _ other. cc) (λ _ other. cc))
      (λ stuck _. stuck_is_infeasible p stuck) (sym is.verdict ∙ e);
}

by_true : (p : ProjectData) → IsTrue (is_project p) → (kind : SearchKind) (most : ℕ) (found : SearchResult) → IsFoundBy p kind most found → IsTrueOf p found
by_true p kept (Planned kind) most found is = found_true (record { project = p; kind = kind }) kept most found is
by_true p kept (Improve seed) most found is = improved_true p kept most found is
by_true p kept (Prove conflicts) most found is = is.holds

pub by_few : (p : ProjectData) (kind : SearchKind) (most : ℕ) (f : SearchResult) → IsFoundBy p kind most f → f.nodes ≤ most
by_few p (Planned kind) most f is = found_few (record { project = p; kind = kind }) most f is
by_few p (Improve seed) most f is = is.nodes
by_few p (Prove conflicts) most f is = let few : f.nodes ≤ min conflicts most = is.nodes in omega arith

all_true : (p : ProjectData) → IsTrue (is_project p) → (kinds : List SearchKind) (most : ℕ) (each : List SearchResult) (before : SearchResult) → IsTrueOf p before → AreFound p kinds most each → IsTrueOf p (fold (joined p) before each)
all_true p kept [] most each before h e = rw e h
all_true p kept (kind ∷ kinds) most [] before h e = absurd e
all_true p kept (kind ∷ kinds) most (found ∷ rest) before h (is, next) =
    let now = joined_true p before found h (by_true p kept kind most found is) in
    ⊎_elim (λ x. rw x.1 now) (λ x. all_true p kept kinds most rest (joined p before found) now x.1) next

pub several_are_true : SeveralAreTrue
several_are_true p kept kinds most found is = rw is.whole (all_true p kept kinds most is.each nothing (nothing_true p) is.run)

nothing_is_best : (p : ProjectData) (o : Option ScheduleData) → better p None o ≡ o
nothing_is_best p None = refl
nothing_is_best p (Some s) = refl

joined_to_nothing : (p : ProjectData) (kind : Kind) (most : ℕ) (f : SearchResult) → IsFound (record { project = p; kind = kind }) most f → IsFound (record { project = p; kind = kind }) most (joined p nothing f)
joined_to_nothing p kind most f is =
    let n : 0 + f.nodes ≡ f.nodes = zero-add f.nodes in
    let b = nothing_is_best p f.best in
    record {
      nodes = n ∙ is.nodes;
      best = rw n (b ∙ is.best);
      makespan = refl;
      verdict = rw n is.verdict;
    }

one_alone : (p : ProjectData) (kind : Kind) (most : ℕ) (each : List SearchResult) → AreFound p (Planned kind ∷ []) most each → IsFound (record { project = p; kind = kind }) most (fold (joined p) nothing each)
one_alone p kind most [] h = absurd h
one_alone p kind most (f ∷ rest) (is, next) =
    let e : rest ≡ [] = ⊎_elim (λ x. x.1) (λ x. x.1) next in
    rw e (joined_to_nothing p kind most f is)

pub one_is_itself : OneIsItself
one_is_itself p kind most found is = rw is.whole (one_alone p kind most is.each is.run)

-- whatever later searches find, all have found it together with what was found
abbrev pub IsLeading : ProjectData → List SearchKind → List SearchKind → ℕ → SearchResult → Type 0
IsLeading p kinds later most before = (rest : List SearchResult) → AreFound p later most rest → IsFoundByEach p kinds most (fold (joined p) before rest)

-- one more search, which decides the project,
last_search : (p : ProjectData) (kinds : List SearchKind) (kind : SearchKind) (later : List SearchKind) (most : ℕ) (before f : SearchResult)
    → IsLeading p kinds (kind ∷ later) most before → IsFoundBy p kind most f → is_decided f.verdict ≡ true → IsFoundByEach p kinds most (joined p before f)
last_search p kinds kind later most before f leads is e = leads (f ∷ []) (is, inl (e, refl))

-- or does not
next_search : (p : ProjectData) (kinds : List SearchKind) (kind : SearchKind) (later : List SearchKind) (most : ℕ) (before f : SearchResult)
    → IsLeading p kinds (kind ∷ later) most before → IsFoundBy p kind most f → is_decided f.verdict ≡ false → IsLeading p kinds later most (joined p before f)
next_search p kinds kind later most before f leads is e = λ rest r. leads (f ∷ rest) (is, inr (e, r))

cut_at : (kinds : List SearchKind) (i : ℕ) (d : SearchKind) → i < length kinds → drop i kinds ≡ get_or kinds i d ∷ drop (i + 1) kinds
cut_at kinds i d h = rw (add-one, drop-cons kinds i d) refl

-- the search of the kind at a place, which decides the project,
pub last_at : (p : ProjectData) (kinds : List SearchKind) (i : ℕ) (d : SearchKind) (most : ℕ) (before f now : SearchResult) → i < length kinds → IsLeading p kinds (drop i kinds) most before
    → IsFoundBy p (get_or kinds i d) most f → is_decided f.verdict ≡ true → now ≡ joined p before f → IsFoundByEach p kinds most now
last_at p kinds i d most before f now small leads is e j =
    let here = subst (λ (l : List SearchKind). IsLeading p kinds l most before) (cut_at kinds i d small) leads in
    subst (λ (x : SearchResult). IsFoundByEach p kinds most x) (sym j) (last_search p kinds (get_or kinds i d) (drop (i + 1) kinds) most before f here is e)

-- or does not
pub next_at : (p : ProjectData) (kinds : List SearchKind) (i : ℕ) (d : SearchKind) (most : ℕ) (before f now : SearchResult) → i < length kinds → IsLeading p kinds (drop i kinds) most before
    → IsFoundBy p (get_or kinds i d) most f → is_decided f.verdict ≡ false → now ≡ joined p before f → IsLeading p kinds (drop (i + 1) kinds) most now
next_at p kinds i d most before f now small leads is e j =
    let here = subst (λ (l : List SearchKind). IsLeading p kinds l most before) (cut_at kinds i d small) leads in
    subst (λ (x : SearchResult). IsLeading p kinds (drop (i + 1) kinds) most x) (sym j) (next_search p kinds (get_or kinds i d) (drop (i + 1) kinds) most before f here is e)

-- no search is left
pub all_at : (p : ProjectData) (kinds : List SearchKind) (i : ℕ) (most : ℕ) (before : SearchResult) → length kinds ≤ i → IsLeading p kinds (drop i kinds) most before → IsFoundByEach p kinds most before
all_at p kinds i most before h leads =
    let here = subst (λ (l : List SearchKind). IsLeading p kinds l most before) (drop_all i kinds h) leads in
    here [] refl
