-- The laws of the tree: each incumbent is feasible, and a closed tree decides.
use Rattle.std.proofs.Common.{◌≡◌, ℕ, zero, suc, ◌+◌, ◌<◌, ◌≤◌, true, false, not, nat_lt, List, [], ◌∷◌, ◌++◌, length, get_or, take, filter, flat_map, All, Option, Some, None, IfSome, MatchOption, arith, subst, take_all, ⊎_elim}
use Rattle.std.specs.List.{range_with_len}
use Rattle.std.proofs.lemmas.Bool.{or_parts, cond_both, cond-false, cases_lt, le-ltb, ltb-false, leb-true, not-false}
use Rattle.std.proofs.lemmas.List.{length_push}
use Rattle.std.proofs.lemmas.List.Elements.{All-nil, All-cons, All-head, All-tail, All-append, All-filter, filter_passes, All-map, All-take}
use Rattle.std.proofs.lemmas.List.FromFn.{get_or-range_with_len, length-range_with_len}
use Rattle.mrcpsp.specs.Project.{ProjectData, size, mode_count}
use Rattle.mrcpsp.specs.Schedule.{ScheduleData, IsFeasible, IsOptimal, IsInfeasible, makespan}
use Rattle.mrcpsp.specs.Limits.{IsProject}
use Rattle.mrcpsp.specs.Breach.{HasShape}
use Rattle.mrcpsp.specs.Placed.{last_start, Placed, is_eligible, is_executable, is_affordable, schedule_of}
use Rattle.strategy.specs.Tree.{Node, modes_of, candidates, placing, is_pruned, improved, updated, after, Below, visit_one, visit_all, visits, all_visits, tree_best_after, is_tree_over}
use Rattle.strategy.specs.Candidate.{Candidate}
use Rattle.strategy.proofs.FollowLemmas.{follows-nil}
use Rattle.strategy.proofs.TreeLemmas.{Reached, pruned_node, placed_node, visits-reaches}
use Rattle.strategy.proofs.SoundLemmas.{IsSound, IsOpen, sound-nil, sound-push, feasible-full, shaped-full, last_start-le-latest}

-- feasible, with starts that fit
abbrev pub Fine : ProjectData → ScheduleData → Type 0
Fine p s = IsFeasible p s × HasShape p s

abbrev pub Good : ProjectData → Option ScheduleData → Type 0
Good p best = IfSome best (Fine p)

abbrev GoodNode : ProjectData → Node → Type 0
GoodNode p n = Good p n.best

All-flat_map : {X Y : Type 0} (P : Y → Type 0) (f : X → List Y) (xs : List X) → All (λ x. All P (f x)) xs → All P (flat_map f xs)
All-flat_map P f [] h = All-nil P
All-flat_map P f (x ∷ xs) h = All-append P (f x) (flat_map f xs) (All-head (λ y. All P (f y)) x xs h) (All-flat_map P f xs (All-tail (λ y. All P (f y)) x xs h))

pub All-range : (P : ℕ → Type 0) (n : ℕ) → ((i : ℕ) → i < n → P i) → All P (range_with_len 0 n)
All-range P n h k d l =
    let inside : k < n = subst (λ m. k < m) (length-range_with_len 0 n) l in
    subst P (let e : k ≡ get_or (range_with_len 0 n) k d = omega (arith, get_or-range_with_len 0 n k d inside) in e) (h k inside)

-- the candidates are eligible, and their modes exist
candidates-open : (p : ProjectData) (placed : List Placed) → All (IsOpen p placed) (candidates p placed)
unfolding candidates
candidates-open p placed =
    All-flat_map (IsOpen p placed) (modes_of p) (filter (is_eligible p placed) (range_with_len 0 (size p)))
    (λ k d l.
    let xs : List ℕ = filter (is_eligible p placed) (range_with_len 0 (size p)) in
    let j : ℕ = get_or xs k d in
    let inside : j < size p = All-filter (is_eligible p placed) (λ i. i < size p) (range_with_len 0 (size p)) (All-range (λ i. i < size p) (size p) (λ i h. h)) k d l in
    let eligible : is_eligible p placed j ≡ true = filter_passes (is_eligible p placed) (range_with_len 0 (size p)) k d l in
    All-map (IsOpen p placed) (λ m. record { activity = j; mode = m }) (range_with_len 0 (mode_count p j))
    (All-range (λ m. IsOpen p placed (record { activity = j; mode = m })) (mode_count p j) (λ m h. record { inside = inside; mode = h; eligible = eligible })))

after-good : (p : ProjectData) (nodes : List Node) (best : Option ScheduleData) → Good p best → All (GoodNode p) nodes → Good p (after best nodes)
after-good p [] best h all = h
after-good p (x ∷ nodes) best h all = after-good p nodes x.best (All-head (GoodNode p) x nodes all) (All-tail (GoodNode p) x nodes all)

pub improved-good : (p : ProjectData) (best : Option ScheduleData) (s : ScheduleData) → Good p best → Fine p s → Good p (improved p best s)
improved-good p None s h feasible = feasible
improved-good p (Some best) s h feasible = cond_both (nat_lt (makespan p s) (makespan p best)) (Some s) (Some best) (Good p) (λ _. feasible) (λ _. h)

updated-good : (p : ProjectData) (placed : List Placed) (best : Option ScheduleData) → IsProject p → Good p best → IsSound p placed → length placed ≤ size p → Good p (updated p placed best)
unfolding updated
updated-good p placed best ok h sound short =
    ⊎_elim (λ (l : length placed < size p). cond_both (nat_lt (length placed) (size p)) best (improved p best (schedule_of (size p) placed)) (Good p) (λ _. h) (λ e. absurd (omega (arith, ltb-false (length placed) (size p) e))))
    (λ (full : size p ≤ length placed). rw (cond-false (nat_lt (length placed) (size p)) best (improved p best (schedule_of (size p) placed)) (le-ltb (length placed) (size p) full)) (improved-good p best (schedule_of (size p) placed) h (feasible-full p placed sound (omega arith), shaped-full p placed ok sound (omega arith))))
    (cases_lt (length placed) (size p))

module _ (p : ProjectData) (ok : IsProject p) where
  abbrev SoundBelow : ℕ → Below → Type 0
  SoundBelow d below = (placed : List Placed) (best : Option ScheduleData) → Good p best → IsSound p placed → length placed + d ≡ size p → All (GoodNode p) (below placed best)

  kept-sound : (placed : List Placed) → IsSound p placed → (c : Candidate) → IsOpen p placed c → (best : Option ScheduleData) → is_pruned p placed c best ≡ false → IsSound p (placed ++ placing p placed c ∷ [])
  unfolding is_pruned
  kept-sound placed sound c able best kept =
      let first = or_parts (not (is_executable p c.activity c.mode)) _ kept in
      let second = or_parts (not (is_affordable p placed c.activity c.mode)) _ first.1 in
      sound-push p placed (last_start placed) c ok sound able (not-false (is_executable p c.activity c.mode) first.0) (not-false (is_affordable p placed c.activity c.mode) second.0) (last_start-le-latest p placed)

  one-good : (d : ℕ) (below : Below) → SoundBelow d below → (placed : List Placed) → IsSound p placed → length placed + suc d ≡ size p → (c : Candidate) → IsOpen p placed c → (best : Option ScheduleData) → Good p best → All (GoodNode p) (visit_one below p placed c best)
  unfolding visit_one
  one-good d below each placed sound count c able best h =
      let next : List Placed = placed ++ placing p placed c ∷ [] in
      let longer : length next ≡ length placed + 1 = length_push placed (placing p placed c) in
      cond_both (is_pruned p placed c best) (pruned_node p placed c best ∷ []) (placed_node p placed c best ∷ below next (updated p next best)) (All (GoodNode p))
      (λ _. All-cons (GoodNode p) (pruned_node p placed c best) [] h (All-nil (GoodNode p)))
      (λ kept.
      let grown : IsSound p next = kept-sound placed sound c able best kept in
      let good : Good p (updated p next best) = updated-good p next best ok h grown (omega arith) in
      All-cons (GoodNode p) (placed_node p placed c best) (below next (updated p next best)) good (each next (updated p next best) good grown (omega arith)))

  all-good : (d : ℕ) (below : Below) → SoundBelow d below → (placed : List Placed) → IsSound p placed → length placed + suc d ≡ size p → (cs : List Candidate) → All (IsOpen p placed) cs → (best : Option ScheduleData) → Good p best → All (GoodNode p) (visit_all below p placed cs best)
  all-good d below each placed sound count [] able best h = All-nil (GoodNode p)
  all-good d below each placed sound count (c ∷ cs) able best h =
      let here = visit_one below p placed c best in
      let good : All (GoodNode p) here = one-good d below each placed sound count c (All-head (IsOpen p placed) c cs able) best h in
      All-append (GoodNode p) here (visit_all below p placed cs (after best here)) good
      (all-good d below each placed sound count cs (All-tail (IsOpen p placed) c cs able) (after best here) (after-good p here best h good))

  visits-good : (d : ℕ) → SoundBelow d (visits p d)
  visits-good zero placed best h sound count = All-nil (GoodNode p)
  visits-good (suc d) placed best h sound count = all-good d (visits p d) (visits-good d) placed sound count (candidates p placed) (candidates-open p placed) best h

pub best_is_fine : (p : ProjectData) → IsProject p → (k : ℕ) → Good p (tree_best_after p k)
unfolding tree_best_after all_visits
best_is_fine p ok k =
    after-good p (take k (all_visits p)) None tt (All-take (GoodNode p) k (all_visits p) (visits-good p ok (size p) [] None tt (sound-nil p) (omega arith)))

-- whatever is feasible, the closed tree's incumbent is at most as long
closed-reaches : (p : ProjectData) → IsProject p → (k : ℕ) → is_tree_over p k ≡ true → (s : ScheduleData) → IsFeasible p s → Reached p (makespan p s) (tree_best_after p k)
unfolding tree_best_after is_tree_over all_visits
closed-reaches p ok k closed s feasible =
    let all : take k (visits p (size p) [] None) ≡ visits p (size p) [] None = take_all k (visits p (size p) [] None) (leb-true (length (visits p (size p) [] None)) k closed) in
    rw all (visits-reaches p s ok feasible (size p) [] None (follows-nil p s) (omega arith) ok.some)

decides : (p : ProjectData) (best : Option ScheduleData) → Good p best → ((s : ScheduleData) → IsFeasible p s → Reached p (makespan p s) best) → MatchOption best (IsInfeasible p) (λ s. IsOptimal p s)
decides p None h reaches = reaches
decides p (Some s) h reaches = record { feasible = h.0; least = reaches }

pub closed_decides : (p : ProjectData) → IsProject p → (k : ℕ) → is_tree_over p k ≡ true → MatchOption (tree_best_after p k) (IsInfeasible p) (λ s. IsOptimal p s)
closed_decides p ok k closed = decides p (tree_best_after p k) (best_is_fine p ok k) (closed-reaches p ok k closed)
