-- A best schedule gives way only to a shorter one, so that one that is as short as the bound stays.
use Rattle.std.proofs.Common.{◌≡◌, ℕ, zero, suc, ◌+◌, ◌/◌, ◌<◌, ◌≤◌, ◌⊎◌, inl, inr, nat_lt, List, [], ◌∷◌, ◌++◌, length, map, take, fold, Option, Some, None, arith, refl, sym, ap, subst, ◌∙◌, ⊎_elim, le_trans}
use Rattle.std.specs.Prelude.{⊤}
use Rattle.std.specs.List.{range_with_len}
use Rattle.std.proofs.lemmas.Bool.{cond_both, cond-true, cond-false, cases_lt, le-ltb, lt-ltb, ltb-true}
use Rattle.std.proofs.lemmas.List.FromFn.{map-range_with_len_more}
use Rattle.std.proofs.lemmas.List.Sums.{fold_push}
use Rattle.std.proofs.lemmas.Nat.{le-div}
use Rattle.std.proofs.Math.Nat.{div-mul-le_self}
use Rattle.mrcpsp.specs.Project.{ProjectData, size}
use Rattle.mrcpsp.specs.Schedule.{ScheduleData, makespan}
use Rattle.mrcpsp.specs.Placed.{Placed, schedule_of}
use Rattle.mrcpsp.specs.Limits.{IsProject}
use Rattle.strategy.specs.Tree as tree
use Rattle.strategy.specs.Tree.{Node, candidates, is_pruned, placing, improved, updated, after, Below, visit_one, visit_all, visits, all_visits}
use Rattle.strategy.specs.Candidate.{Candidate}
use Rattle.strategy.specs.Pass.{pass}
use Rattle.strategy.specs.Outcome.{better, best_pass, rule_best, best_of}
use Rattle.strategy.specs.declared.kind.Kind.{Kind}
use Rattle.strategy.specs.declared.kind.Kind.TheVariants.{Tree, RuleLft, RuleMts, RuleSpt, Sample}
use Rattle.strategy.proofs.TreeLemmas.{pruned_node, placed_node}

-- shorter than the best schedule, where there is one
abbrev pub IsShorter : ProjectData → ScheduleData → Option ScheduleData → Type 0
IsShorter p s None = ⊤
IsShorter p s (Some best) = makespan p s < makespan p best

-- the same best schedule, or a shorter one
abbrev pub IsLater : ProjectData → Option ScheduleData → Option ScheduleData → Type 0
IsLater p best next = (next ≡ best) ⊎ ((s : ScheduleData) × (next ≡ Some s) × IsShorter p s best)

shorter-trans : (p : ProjectData) (s t : ScheduleData) (best : Option ScheduleData) → makespan p s < makespan p t → IsShorter p t best → IsShorter p s best
shorter-trans p s t None l h = tt
shorter-trans p s t (Some best) l h = omega arith

later-trans : (p : ProjectData) (one two three : Option ScheduleData) → IsLater p one two → IsLater p two three → IsLater p one three
later-trans p one two three h (inl e) = subst (IsLater p one) (sym e) h
later-trans p one two three (inl e) (inr (s, is, less)) = inr (s, is, subst (IsShorter p s) e less)
later-trans p one two three (inr (t, was, more)) (inr (s, is, less)) = inr (s, is, shorter-trans p s t one (subst (IsShorter p s) was less) more)

later-along : (p : ProjectData) (f : ℕ → Option ScheduleData) → ((k : ℕ) → IsLater p (f k) (f (k + 1))) → (k l : ℕ) → k ≤ l → IsLater p (f k) (f l)
later-along p f step k zero h = inl (ap f (let e : 0 ≡ k = omega arith in e))
later-along p f step k (suc l) h =
    ⊎_elim
    (λ (less : k < suc l).
    let next : l + 1 ≡ suc l = omega arith in
    later-trans p (f k) (f l) (f (suc l)) (later-along p f step k l (omega arith)) (subst (λ n. IsLater p (f l) (f n)) next (step l)))
    (λ (same : suc l ≤ k). inl (ap f (let e : suc l ≡ k = omega arith in e)))
    (cases_lt k (suc l))

-- ---- the tree

improved-later : (p : ProjectData) (best : Option ScheduleData) (s : ScheduleData) → IsLater p best (improved p best s)
improved-later p None s = inr (s, refl, tt)
improved-later p (Some best) s =
    cond_both (nat_lt (makespan p s) (makespan p best)) (Some s) (Some best) (IsLater p (Some best)) (λ e. inr (s, refl, ltb-true (makespan p s) (makespan p best) e)) (λ _. inl refl)

updated-later : (p : ProjectData) (placed : List Placed) (best : Option ScheduleData) → IsLater p best (updated p placed best)
unfolding updated
updated-later p placed best = cond_both (nat_lt (length placed) (size p)) best (improved p best (schedule_of (size p) placed)) (IsLater p best) (λ _. inl refl) (λ _. improved-later p best (schedule_of (size p) placed))

-- each node's incumbent is later than the one before it
abbrev AreLater : ProjectData → Option ScheduleData → List Node → Type 0
AreLater p best [] = ⊤
AreLater p best (n ∷ nodes) = IsLater p best n.best × AreLater p n.best nodes

later-append : (p : ProjectData) (best : Option ScheduleData) (xs ys : List Node) → AreLater p best xs → AreLater p (after best xs) ys → AreLater p best (xs ++ ys)
later-append p best [] ys h g = g
later-append p best (x ∷ xs) ys h g = (h.0, later-append p x.best xs ys h.1 g)

abbrev LaterBelow : ProjectData → Below → Type 0
LaterBelow p below = (placed : List Placed) (best : Option ScheduleData) → AreLater p best (below placed best)

one-later : (p : ProjectData) (below : Below) → LaterBelow p below → (placed : List Placed) (c : Candidate) (best : Option ScheduleData) → AreLater p best (visit_one below p placed c best)
unfolding visit_one
one-later p below each placed c best =
    let next : List Placed = placed ++ placing p placed c ∷ [] in
    cond_both (is_pruned p placed c best) (pruned_node p placed c best ∷ []) (placed_node p placed c best ∷ below next (updated p next best)) (AreLater p best)
    (λ _. (inl refl, tt))
    (λ _. (updated-later p next best, each next (updated p next best)))

all-later : (p : ProjectData) (below : Below) → LaterBelow p below → (placed : List Placed) (cs : List Candidate) (best : Option ScheduleData) → AreLater p best (visit_all below p placed cs best)
all-later p below each placed [] best = tt
all-later p below each placed (c ∷ cs) best =
    let here = visit_one below p placed c best in
    later-append p best here (visit_all below p placed cs (after best here)) (one-later p below each placed c best) (all-later p below each placed cs (after best here))

visits-later : (p : ProjectData) (d : ℕ) → LaterBelow p (visits p d)
visits-later p zero placed best = tt
visits-later p (suc d) placed best = all-later p (visits p d) (visits-later p d) placed (candidates p placed) best

take-later : (p : ProjectData) (nodes : List Node) (best : Option ScheduleData) (k : ℕ) → AreLater p best nodes → IsLater p (after best (take k nodes)) (after best (take (suc k) nodes))
take-later p [] best zero h = inl refl
take-later p [] best (suc k) h = inl refl
take-later p (n ∷ nodes) best zero h = h.0
take-later p (n ∷ nodes) best (suc k) h = take-later p nodes n.best k h.1

tree-later : (p : ProjectData) (k : ℕ) → IsLater p (tree.tree_best_after p k) (tree.tree_best_after p (k + 1))
unfolding tree.tree_best_after all_visits
tree-later p k =
    let next : suc k ≡ k + 1 = omega arith in
    subst (λ n. IsLater p (after None (take k (visits p (size p) [] None))) (after None (take n (visits p (size p) [] None)))) next
    (take-later p (visits p (size p) [] None) None k (visits-later p (size p) [] None))

-- ---- rules and sampling

rule-later : (p : ProjectData) (kind : Kind) (k : ℕ) → IsLater p (rule_best p kind k) (rule_best p kind (k + 1))
rule-later p kind k =
    ⊎_elim
    (λ (early : k < size p). rw (cond-true (nat_lt k (size p)) None (pass p kind 0) (lt-ltb k (size p) early)) (from_none p (rule_best p kind (k + 1))))
    (λ (whole : size p ≤ k). inl (cond-false (nat_lt (k + 1) (size p)) None (pass p kind 0) (le-ltb (k + 1) (size p) (omega arith)) ∙ sym (cond-false (nat_lt k (size p)) None (pass p kind 0) (le-ltb k (size p) whole))))
    (cases_lt k (size p))
  where
    from_none : (p : ProjectData) (best : Option ScheduleData) → IsLater p None best
    from_none p None = inl refl
    from_none p (Some s) = inr (s, refl, tt)

better-later : (p : ProjectData) (best one : Option ScheduleData) → IsLater p best (better p best one)
better-later p best None = inl refl
better-later p best (Some s) = improved-later p best s

pass-later : (p : ProjectData) (kind : Kind) (q : ℕ) → IsLater p (best_pass p kind q) (best_pass p kind (q + 1))
unfolding best_pass
pass-later p kind q =
    let more : fold (better p) None (map (pass p kind) (range_with_len 0 (q + 1))) ≡ better p (fold (better p) None (map (pass p kind) (range_with_len 0 q))) (pass p kind q) =
    ap (fold (better p) None) (map-range_with_len_more (pass p kind) 0 q q (omega arith)) ∙ fold_push (better p) None (map (pass p kind) (range_with_len 0 q)) (pass p kind q) in
    rw more (better-later p (fold (better p) None (map (pass p kind) (range_with_len 0 q))) (pass p kind q))

-- ---- every kind

pub best-later : (p : ProjectData) → IsProject p → (kind : Kind) (k l : ℕ) → k ≤ l → IsLater p (best_of p kind k) (best_of p kind l)
best-later p ok Tree k l h = later-along p (tree.tree_best_after p) (tree-later p) k l h
best-later p ok RuleLft k l h = later-along p (rule_best p RuleLft) (rule-later p RuleLft) k l h
best-later p ok RuleMts k l h = later-along p (rule_best p RuleMts) (rule-later p RuleMts) k l h
best-later p ok RuleSpt k l h = later-along p (rule_best p RuleSpt) (rule-later p RuleSpt) k l h
best-later p ok (Sample seed) k l h =
    later-along p (best_pass p (Sample seed)) (pass-later p (Sample seed)) (k / size p) (l / size p) (le-div (k / size p) l (size p) ok.some (le_trans (div-mul-le_self k (size p)) h))
