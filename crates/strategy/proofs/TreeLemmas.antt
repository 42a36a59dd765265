-- The tree reaches a schedule that is no longer than any feasible one.
use Rattle.std.proofs.Common.{◌≡◌, ℕ, zero, suc, ◌+◌, ◌<◌, ◌≤◌, Bool, true, false, cond, not, nat_lt, ◌⊎◌, inl, inr, List, [], ◌∷◌, ◌++◌, length, map, filter, flat_map, Option, Some, None, arith, refl, sym, ap, le_trans, ◌∙◌, subst, ⊎_elim}
use Rattle.std.specs.List.{range_with_len}
use Rattle.std.proofs.lemmas.Bool.{or_cases, cond_both, cond-true, cond-false, cases_lt, both_ways, false≢true, leb-true, ltb-true, ltb-false, le-ltb, not_from_true}
use Rattle.std.proofs.lemmas.List.{length_push}
use Rattle.std.proofs.lemmas.List.Sums.{fold-append}
use Rattle.mrcpsp.specs.Numbers.{sum_below}
use Rattle.mrcpsp.specs.Project.{ProjectData, size, mode_count, duration}
use Rattle.mrcpsp.specs.Schedule.{ScheduleData, IsFeasible, mode_of, start_of, finish, makespan}
use Rattle.mrcpsp.specs.Limits.{IsProject}
use Rattle.mrcpsp.specs.Placed.{Placed, is_placed, last_start, earliest, is_eligible, is_executable, is_affordable, schedule_of}
use Rattle.mrcpsp.specs.Values.{tail}
use Rattle.strategy.specs.Tree.{Node, modes_of, candidates, placing, is_too_late, is_pruned, improved, updated, after, Below, visit_one, visit_all, visits}
use Rattle.strategy.specs.Candidate.{Candidate, placed_from}
use Rattle.mrcpsp.proofs.NumbersLemmas.{sum_below-same}
use Rattle.mrcpsp.proofs.ProjectLemmas.{tail-le}
use Rattle.mrcpsp.proofs.PlacedLemmas.{count_split}
use Rattle.strategy.proofs.FollowLemmas.{Follows, IsNextBy, next_or_none, next-executable, next-eligible, next-affordable, next-earliest, follows-push, follows-makespan}

-- x is an element
abbrev pub In : {X : Type 0} → List X → X → Type 0
In [] x = ⊥
In (y ∷ ys) x = (y ≡ x) ⊎ In ys x

In-append_left : {X : Type 0} (xs ys : List X) (x : X) → In xs x → In (xs ++ ys) x
In-append_left [] ys x h = absurd h
In-append_left (z ∷ xs) ys x (inl e) = inl e
In-append_left (z ∷ xs) ys x (inr h) = inr (In-append_left xs ys x h)

In-append_right : {X : Type 0} (xs ys : List X) (x : X) → In ys x → In (xs ++ ys) x
In-append_right [] ys x h = h
In-append_right (z ∷ xs) ys x h = inr (In-append_right xs ys x h)

In-map : {X Y : Type 0} (f : X → Y) (xs : List X) (x : X) → In xs x → In (map f xs) (f x)
In-map f [] x h = absurd h
In-map f (z ∷ xs) x (inl e) = inl (ap f e)
In-map f (z ∷ xs) x (inr h) = inr (In-map f xs x h)

In-filter : {X : Type 0} (p : X → Bool) (xs : List X) (x : X) → In xs x → p x ≡ true → In (filter p xs) x
In-filter p [] x h t = absurd h
In-filter p (z ∷ xs) x (inl e) t = subst (λ l. In l x) (sym (cond-true (p z) (z ∷ filter p xs) (filter p xs) (ap p e ∙ t))) (inl e)
In-filter p (z ∷ xs) x (inr h) t = cond_both (p z) (z ∷ filter p xs) (filter p xs) (λ l. In l x) (λ _. inr (In-filter p xs x h t)) (λ _. In-filter p xs x h t)

In-flat_map : {X Y : Type 0} (f : X → List Y) (xs : List X) (x : X) (y : Y) → In xs x → In (f x) y → In (flat_map f xs) y
In-flat_map f [] x y h k = absurd h
In-flat_map f (z ∷ xs) x y (inl e) k = In-append_left (f z) (flat_map f xs) y (subst (λ w. In (f w) y) (sym e) k)
In-flat_map f (z ∷ xs) x y (inr h) k = In-append_right (f z) (flat_map f xs) y (In-flat_map f xs x y h k)

In-range : (a n i : ℕ) → a ≤ i → i < a + n → In (range_with_len a n) i
In-range a zero i from until = absurd (omega arith)
In-range a (suc n) i from until = ⊎_elim (λ (e : a < i). inr (In-range (a + 1) n i (omega arith) (omega arith))) (λ (e : i ≤ a). inl (omega arith)) (cases_lt a i)

pub candidates-In : (p : ProjectData) (placed : List Placed) (j m : ℕ) → j < size p → m < mode_count p j → is_eligible p placed j ≡ true → In (candidates p placed) (record { activity = j; mode = m })
unfolding candidates
candidates-In p placed j m inside exists eligible =
    In-flat_map (modes_of p) (filter (is_eligible p placed) (range_with_len 0 (size p))) j (record { activity = j; mode = m })
    (In-filter (is_eligible p placed) (range_with_len 0 (size p)) j (In-range 0 (size p) j (omega arith) (omega arith)) eligible)
    (In-map (λ m. record { activity = j; mode = m }) (range_with_len 0 (mode_count p j)) m (In-range 0 (mode_count p j) m (omega arith) (omega arith)))

-- an incumbent of at most this length
abbrev pub Reached : ProjectData → ℕ → Option ScheduleData → Type 0
Reached p k None = ⊥
Reached p k (Some best) = makespan p best ≤ k

improved-keeps : (p : ProjectData) (k : ℕ) (best : Option ScheduleData) (s : ScheduleData) → Reached p k best → Reached p k (improved p best s)
improved-keeps p k None s h = absurd h
improved-keeps p k (Some best) s h = cond_both (nat_lt (makespan p s) (makespan p best)) (Some s) (Some best) (Reached p k) (λ e. omega (arith, ltb-true (makespan p s) (makespan p best) e)) (λ e. h)

improved-reaches : (p : ProjectData) (k : ℕ) (best : Option ScheduleData) (s : ScheduleData) → makespan p s ≤ k → Reached p k (improved p best s)
improved-reaches p k None s h = h
improved-reaches p k (Some best) s h = cond_both (nat_lt (makespan p s) (makespan p best)) (Some s) (Some best) (Reached p k) (λ e. h) (λ e. le_trans (ltb-false (makespan p s) (makespan p best) e) h)

updated-keeps : (p : ProjectData) (k : ℕ) (placed : List Placed) (best : Option ScheduleData) → Reached p k best → Reached p k (updated p placed best)
unfolding updated
updated-keeps p k placed best h = cond_both (nat_lt (length placed) (size p)) best (improved p best (schedule_of (size p) placed)) (Reached p k) (λ _. h) (λ _. improved-keeps p k best (schedule_of (size p) placed) h)

updated-reaches : (p : ProjectData) (k : ℕ) (placed : List Placed) (best : Option ScheduleData) → length placed ≡ size p → makespan p (schedule_of (size p) placed) ≤ k → Reached p k (updated p placed best)
unfolding updated
updated-reaches p k placed best full h =
    rw (cond-false (nat_lt (length placed) (size p)) best (improved p best (schedule_of (size p) placed)) (le-ltb (length placed) (size p) (omega arith))) (improved-reaches p k best (schedule_of (size p) placed) h)

-- the node of a candidate that is pruned, and of one that is placed
abbrev pub pruned_node : ProjectData → List Placed → Candidate → Option ScheduleData → Node
pruned_node p placed c best = record { place = placing p placed c; pruned = true; best = best }

abbrev pub placed_node : ProjectData → List Placed → Candidate → Option ScheduleData → Node
placed_node p placed c best = record { place = placing p placed c; pruned = false; best = updated p (placed ++ placing p placed c ∷ []) best }

-- what is reached stays reached
abbrev Keeps : ProjectData → ℕ → Below → Type 0
Keeps p k below = (placed : List Placed) (best : Option ScheduleData) → Reached p k best → Reached p k (after best (below placed best))

visit_one-keeps : (p : ProjectData) (k : ℕ) (below : Below) → Keeps p k below → (placed : List Placed) (c : Candidate) (best : Option ScheduleData) → Reached p k best → Reached p k (after best (visit_one below p placed c best))
unfolding visit_one
visit_one-keeps p k below keeps placed c best h =
    let next : List Placed = placed ++ placing p placed c ∷ [] in
    cond_both (is_pruned p placed c best) (pruned_node p placed c best ∷ []) (placed_node p placed c best ∷ below next (updated p next best)) (λ nodes. Reached p k (after best nodes)) (λ _. h)
    (λ _. keeps next (updated p next best) (updated-keeps p k next best h))

pub after-append : (best : Option ScheduleData) (xs ys : List Node) → after best (xs ++ ys) ≡ after (after best xs) ys
after-append best xs ys = fold-append (λ _ n. n.best) best xs ys

visit_all-keeps : (p : ProjectData) (k : ℕ) (below : Below) → Keeps p k below → (placed : List Placed) (cs : List Candidate) (best : Option ScheduleData) → Reached p k best → Reached p k (after best (visit_all below p placed cs best))
visit_all-keeps p k below keeps placed [] best h = h
visit_all-keeps p k below keeps placed (c ∷ cs) best h =
    let here = visit_one below p placed c best in
    rw (after-append best here (visit_all below p placed cs (after best here)))
    (visit_all-keeps p k below keeps placed cs (after best here) (visit_one-keeps p k below keeps placed c best h))

visits-keeps : (p : ProjectData) (k d : ℕ) → Keeps p k (visits p d)
visits-keeps p k zero placed best h = h
visits-keeps p k (suc d) placed best h = visit_all-keeps p k (visits p d) (visits-keeps p k d) placed (candidates p placed) best h

-- where one candidate reaches, the level does
visit_all-reaches : (p : ProjectData) (k : ℕ) (below : Below) → Keeps p k below → (placed : List Placed) (c : Candidate) → ((best : Option ScheduleData) → Reached p k (after best (visit_one below p placed c best))) → (cs : List Candidate) (best : Option ScheduleData) → In cs c → Reached p k (after best (visit_all below p placed cs best))
visit_all-reaches p k below keeps placed c reaches [] best h = absurd h
visit_all-reaches p k below keeps placed c reaches (x ∷ cs) best (inl e) =
    let here = visit_one below p placed x best in
    rw (after-append best here (visit_all below p placed cs (after best here)))
    (visit_all-keeps p k below keeps placed cs (after best here) (subst (λ y. Reached p k (after best (visit_one below p placed y best))) (sym e) (reaches best)))
visit_all-reaches p k below keeps placed c reaches (x ∷ cs) best (inr h) =
    let here = visit_one below p placed x best in
    rw (after-append best here (visit_all below p placed cs (after best here)))
    (visit_all-reaches p k below keeps placed c reaches cs (after best here) h)

too_late-reached : (p : ProjectData) (k at : ℕ) (best : Option ScheduleData) → at ≤ k → is_too_late p best at ≡ true → Reached p k best
too_late-reached p k at None l e = absurd (false≢true e)
too_late-reached p k at (Some best) l e = le_trans (leb-true (makespan p best) at e) l

-- as long as fewer are placed than there are, one is left
some_left : (p : ProjectData) (s : ScheduleData) (placed : List Placed) → Follows p s placed → length placed < size p → ((j : ℕ) → j < size p → is_placed placed j ≡ true) → ⊥
some_left p s placed follows short all =
    let none : sum_below (λ j. cond (is_placed placed j) 0 1) (size p) ≡ sum_below (λ _. 0) (size p) = sum_below-same (λ j. cond (is_placed placed j) 0 1) (λ _. 0) (size p) (λ j l. cond-true (is_placed placed j) 0 1 (all j l)) in
    omega (arith, count_split (size p) placed follows.distinct follows.inside, zero_sum (size p))
  where
    zero_sum : (n : ℕ) → sum_below (λ _. 0) n ≡ 0
    zero_sum zero = refl
    zero_sum (suc n) = omega (arith, zero_sum n)

module _ (p : ProjectData) (s : ScheduleData) (ok : IsProject p) (feasible : IsFeasible p s) where
  -- the tree reaches the schedule's makespan where it follows the schedule so far
  abbrev Reaches : ℕ → Type 0
  Reaches d = (placed : List Placed) (best : Option ScheduleData) → Follows p s placed → length placed + d ≡ size p → 0 < d → Reached p (makespan p s) (after best (visits p d placed best))

  pruned-reaches : (placed : List Placed) (g : ℕ) → Follows p s placed → IsNextBy p s placed g → (best : Option ScheduleData) → is_pruned p placed (record { activity = g; mode = mode_of s g }) best ≡ true → Reached p (makespan p s) best
  unfolding is_pruned placed_from finish
  pruned-reaches placed g follows next best pruned =
      let early : earliest p placed g (mode_of s g) (last_start placed) ≤ start_of s g = next-earliest p s placed g ok feasible follows next in
      ⊎_elim (λ no. absurd (both_ways (not (is_executable p g (mode_of s g))) (not_from_true (is_executable p g (mode_of s g)) (next-executable p s placed g ok feasible follows next)) no))
      (λ rest. ⊎_elim (λ no. absurd (both_ways (not (is_affordable p placed g (mode_of s g))) (not_from_true (is_affordable p placed g (mode_of s g)) (next-affordable p s placed g ok feasible follows next)) no))
      (too_late-reached p (makespan p s) (earliest p placed g (mode_of s g) (last_start placed) + duration p g (mode_of s g) + tail p g) best (omega (arith, tail-le p s ok feasible g next.inside)))
      (or_cases _ _ rest))
      (or_cases _ _ pruned)

  follow_below : (d : ℕ) → Reaches d → (placed : List Placed) (best : Option ScheduleData) → Follows p s placed → length placed + d ≡ size p → Reached p (makespan p s) (after (updated p placed best) (visits p d placed (updated p placed best)))
  follow_below zero below placed best follows count = let full : length placed ≡ size p = omega arith in updated-reaches p (makespan p s) placed best full (follows-makespan p s placed follows full)
  follow_below (suc d) below placed best follows count = below placed (updated p placed best) follows count (omega arith)

  follow_one : (d : ℕ) → Reaches d → (placed : List Placed) (g : ℕ) → Follows p s placed → IsNextBy p s placed g → length placed + suc d ≡ size p → (best : Option ScheduleData) → Reached p (makespan p s) (after best (visit_one (visits p d) p placed (record { activity = g; mode = mode_of s g }) best))
  unfolding visit_one placed_from
  follow_one d below placed g follows next count best =
      let c : Candidate = record { activity = g; mode = mode_of s g } in
      let new : List Placed = placed ++ placing p placed c ∷ [] in
      cond_both (is_pruned p placed c best) (pruned_node p placed c best ∷ []) (placed_node p placed c best ∷ visits p d new (updated p new best)) (λ nodes. Reached p (makespan p s) (after best nodes))
      (λ pruned. pruned-reaches placed g follows next best pruned)
      (λ _. follow_below d below new best (follows-push p s placed g ok feasible follows next (earliest p placed g (mode_of s g) (last_start placed)) (next-earliest p s placed g ok feasible follows next)) (omega (arith, length_push placed (placing p placed c))))

  reach_step : (d : ℕ) → Reaches d → Reaches (suc d)
  reach_step d below placed best follows count some =
      ⊎_elim (λ all. absurd (some_left p s placed follows (omega arith) all))
      (λ (g, next). visit_all-reaches p (makespan p s) (visits p d) (visits-keeps p (makespan p s) d) placed (record { activity = g; mode = mode_of s g }) (follow_one d below placed g follows next count) (candidates p placed) best
      (candidates-In p placed g (mode_of s g) next.inside (feasible.modes_exist g next.inside).1 (next-eligible p s placed g ok feasible follows next)))
      (next_or_none (is_placed placed) (start_of s) (size p))

  pub visits-reaches : (d : ℕ) → Reaches d
  visits-reaches zero placed best follows count some = absurd (omega arith)
  visits-reaches (suc d) placed best follows count some = reach_step d (visits-reaches d) placed best follows count some
