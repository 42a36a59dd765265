-- The tree along a feasible schedule: the activities are placed in the schedule's order, in its modes, and none
-- later than there.
use Rattle.std.proofs.Common.{◌≡◌, ℕ, zero, suc, ◌+◌, ◌<◌, ◌≤◌, Bool, true, false, cond, ◌||◌, ◌==◌, ◌⊎◌, inl, inr, List, [], ◌∷◌, ◌++◌, length, get_or, All, sum_by, arith, refl, sym, ap, le_of_eq, le_trans, zero-le, ◌∙◌, ⊎_elim}
use Rattle.std.proofs.lemmas.Bool.{and_from, or_parts, or_left, or_right, cases_Bool, cases_lt, cases_eq, both_ways, le-leb, eq-eqb, cond-false}
use Rattle.std.proofs.lemmas.List.Elements.{All-push, All-nil}
use Rattle.std.proofs.lemmas.List.FromFn.{get_or-map-range_with_len}
use Rattle.mrcpsp.specs.Numbers.{sum_below}
use Rattle.mrcpsp.specs.Project.{ProjectData, size, renewables, nonrenewables, duration, request, consumption, capacity, stock}
use Rattle.mrcpsp.specs.Schedule.{ScheduleData, IsFeasible, mode_of, start_of, finish, load, use_of, consumed, makespan}
use Rattle.mrcpsp.specs.Limits.{IsProject}
use Rattle.mrcpsp.specs.Values.{least}
use Rattle.mrcpsp.specs.Placed.{IsDistinct, Placed, placed_use, placed_consumption, is_placed, last_start, are_ready, fits, is_allowed, earliest, is_eligible, is_executable, is_affordable, reserve, mode_in, start_in, schedule_of}
use Rattle.mrcpsp.proofs.NumbersLemmas.{sum_below-le, at-le-sum_below, sum_below-without, sum_by-le-all, sum_by-same-all, all_below-from, max_below-le, at-le-max_below}
use Rattle.mrcpsp.proofs.ProjectLemmas.{precedes-rising, load-le-later, load-running, least-le}
use Rattle.mrcpsp.proofs.PlacedLemmas.{IsDistinct-push, is_placed_push, last_start_push, sum_split, looked_up, all_placed}
use Rattle.mrcpsp.proofs.EarliestLemmas.{eligible-from, ready-from, fits-from, earliest-le}

-- the least of the numbers below n that are not taken, by key and then by number
pub record IsNext (taken : ℕ → Bool) (key : ℕ → ℕ) (n g : ℕ) : Type 0 where
  pub inside : g < n
  pub free : taken g ≡ false
  pub lowest : (j : ℕ) → j < n → taken j ≡ false → key g ≤ key j
  pub foremost : (j : ℕ) → j < g → taken j ≡ false → key g < key j

at_or_below : (j n : ℕ) → j < suc n → (j ≡ n) ⊎ (j < n)
at_or_below j n l = grind arith

next_step : (taken : ℕ → Bool) (key : ℕ → ℕ) (n : ℕ) → ((j : ℕ) → j < n → taken j ≡ true) ⊎ ((g : ℕ) × IsNext taken key n g) → (taken n ≡ true) ⊎ (taken n ≡ false) → ((j : ℕ) → j < suc n → taken j ≡ true) ⊎ ((g : ℕ) × IsNext taken key (suc n) g)
next_step taken key n (inl all) (inl last) = inl (λ j l. ⊎_elim (λ (e : j ≡ n). rw e last) (λ k. all j k) (at_or_below j n l))
next_step taken key n (inl all) (inr last) =
    inr (
      n,
      record {
        inside = omega arith;
        free = last;
        lowest = λ j l left. ⊎_elim (λ (e : j ≡ n). le_of_eq (ap key (sym e))) (λ k. absurd (both_ways (taken j) left (all j k))) (at_or_below j n l);
        foremost = λ j l left. absurd (both_ways (taken j) left (all j l));
      },
    )
next_step taken key n (inr (g, next)) (inl last) =
    inr (
      g,
      record {
        inside = let h : g < n = next.inside in omega arith;
        free = next.free;
        lowest = λ j l left. ⊎_elim (λ (e : j ≡ n). absurd (both_ways (taken n) (rw e at left) last)) (λ k. next.lowest j k left) (at_or_below j n l);
        foremost = next.foremost;
      },
    )
next_step taken key n (inr (g, next)) (inr last) =
    ⊎_elim
    (λ (less : key n < key g). inr (
      n,
      record {
        inside = omega arith;
        free = last;
        lowest = λ j l left. ⊎_elim (λ (e : j ≡ n). le_of_eq (ap key (sym e))) (λ k. omega (arith, next.lowest j k left)) (at_or_below j n l);
        foremost = λ j l left. omega (arith, next.lowest j l left);
      },
    ))
    (λ (more : key g ≤ key n). inr (
      g,
      record {
        inside = let h : g < n = next.inside in omega arith;
        free = next.free;
        lowest = λ j l left. ⊎_elim (λ (e : j ≡ n). omega (arith, ap key e)) (λ k. next.lowest j k left) (at_or_below j n l);
        foremost = next.foremost;
      },
    ))
    (cases_lt (key n) (key g))

pub next_or_none : (taken : ℕ → Bool) (key : ℕ → ℕ) (n : ℕ) → ((j : ℕ) → j < n → taken j ≡ true) ⊎ ((g : ℕ) × IsNext taken key n g)
next_or_none taken key zero = inl (λ j l. absurd (omega arith))
next_or_none taken key (suc n) = next_step taken key n (next_or_none taken key n) (cases_Bool (taken n))

-- the placed ones are as in the schedule, none later than there, and before all that are not placed
pub record Follows (p : ProjectData) (s : ScheduleData) (placed : List Placed) : Type 0 where
  pub inside : All (λ a. a.activity < size p) placed
  pub modes : All (λ a. a.mode ≡ mode_of s a.activity) placed
  pub starts : All (λ a. a.start ≤ start_of s a.activity) placed
  pub distinct : IsDistinct placed
  pub before : All (λ a. (j : ℕ) → j < size p → is_placed placed j ≡ false → start_of s a.activity ≤ start_of s j) placed
  pub last : (j : ℕ) → j < size p → is_placed placed j ≡ false → last_start placed ≤ start_of s j

abbrev pub IsNextBy : ProjectData → ScheduleData → List Placed → ℕ → Type 0
IsNextBy p s placed g = IsNext (is_placed placed) (start_of s) (size p) g

less_of_others : (x y : Bool) (a b : ℕ) → a ≤ b → cond (x || y) 0 a ≤ cond y 0 (cond x 0 b)
less_of_others true true a b l = omega arith
less_of_others true false a b l = omega arith
less_of_others false true a b l = omega arith
less_of_others false false a b l = l

module _ (p : ProjectData) (s : ScheduleData) (placed : List Placed) (g : ℕ) (ok : IsProject p) (feasible : IsFeasible p s) (follows : Follows p s placed) (next : IsNextBy p s placed g) where
  -- where the next one runs in the schedule, the placed ones and it keep each renewable capacity
  pub room : (r u : ℕ) → r < renewables p → start_of s g ≤ u → u < start_of s g + duration p g (mode_of s g) → placed_use p placed r u + request p g (mode_of s g) r ≤ capacity p r
  unfolding placed_use use_of
  room r u inside from until =
      let f : ℕ → ℕ = λ j. load p r u j (mode_of s j) (start_of s j) in
      let less : All (λ a. load p r u a.activity a.mode a.start ≤ load p r u a.activity (mode_of s a.activity) (start_of s a.activity)) placed =
      λ k d l.
      let a = get_or placed k d in
      let early : start_of s a.activity ≤ start_of s g = follows.before k d l g next.inside next.free in
      rw (follows.modes k d l) (load-le-later p r u a.activity (mode_of s a.activity) a.start (start_of s a.activity) (follows.starts k d l) (omega arith)) in
      let mine : f g ≡ request p g (mode_of s g) r = load-running p r u g (mode_of s g) (start_of s g) from until in
      let left : cond (is_placed placed g) 0 (f g) ≡ f g = cond-false (is_placed placed g) 0 (f g) next.free in
      let one : cond (is_placed placed g) 0 (f g) ≤ sum_below (λ j. cond (is_placed placed j) 0 (f j)) (size p) = at-le-sum_below (λ j. cond (is_placed placed j) 0 (f j)) (size p) g next.inside in
      omega (arith, sum_by-le-all (λ (a : Placed). load p r u a.activity a.mode a.start) (λ (a : Placed). f a.activity) placed less, sum_split f (size p) placed follows.distinct follows.inside, feasible.renewable r u inside)

  pub next-executable : is_executable p g (mode_of s g) ≡ true
  unfolding is_executable
  next-executable =
      ⊎_elim (λ (e : duration p g (mode_of s g) ≡ 0). or_left _ _ (eq-eqb (duration p g (mode_of s g)) 0 e))
      (λ (some : duration p g (mode_of s g) ≡ 0 → ⊥). or_right (duration p g (mode_of s g) == 0) _ (all_below-from _ (renewables p) (λ r inside.
      le-leb (request p g (mode_of s g) r) (capacity p r) (omega (arith, room r (start_of s g) inside (omega arith) (omega arith))))))
      (cases_eq (duration p g (mode_of s g)) 0)

  pub next-eligible : is_eligible p placed g ≡ true
  unfolding finish
  next-eligible = eligible-from p placed g next.free (λ i inside before.
      ⊎_elim (λ e. e)
      (λ unplaced.
      let earlier : start_of s g < start_of s i = next.foremost i (precedes-rising p i g ok before).0 unplaced in
      absurd (omega (arith, feasible.precedence i g inside next.inside before)))
      (cases_Bool (is_placed placed i)))

  next-consumption : (r : ℕ) → r < nonrenewables p → placed_consumption p placed r + consumption p g (mode_of s g) r + reserve p placed g r ≤ stock p r
  unfolding placed_consumption reserve consumed
  next-consumption r inside =
      let f : ℕ → ℕ = λ j. consumption p j (mode_of s j) r in
      let same : sum_by (λ (a : Placed). consumption p a.activity a.mode r) placed ≡ sum_by (λ (a : Placed). f a.activity) placed = sum_by-same-all (λ (a : Placed). consumption p a.activity a.mode r) (λ (a : Placed). f a.activity) placed (λ k d l. ap (λ m. consumption p (get_or placed k d).activity m r) (follows.modes k d l)) in
      let left : cond (is_placed placed g) 0 (f g) ≡ f g = cond-false (is_placed placed g) 0 (f g) next.free in
      let others : sum_below (λ i. cond (is_placed placed i || (i == g)) 0 (least p i r)) (size p) ≤ sum_below (λ j. cond (j == g) 0 (cond (is_placed placed j) 0 (f j))) (size p) = sum_below-le (λ i. cond (is_placed placed i || (i == g)) 0 (least p i r)) (λ j. cond (j == g) 0 (cond (is_placed placed j) 0 (f j))) (size p) (λ i l. less_of_others (is_placed placed i) (i == g) (least p i r) (f i) (least-le p i (mode_of s i) r (feasible.modes_exist i l).1)) in
      omega (arith, sum_split f (size p) placed follows.distinct follows.inside, sum_below-without (λ j. cond (is_placed placed j) 0 (f j)) (size p) g next.inside, feasible.nonrenewable r inside)

  pub next-affordable : is_affordable p placed g (mode_of s g) ≡ true
  unfolding is_affordable
  next-affordable = all_below-from _ (nonrenewables p) (λ r inside. le-leb (placed_consumption p placed r + consumption p g (mode_of s g) r + reserve p placed g r) (stock p r) (next-consumption r inside))

  -- its earliest start is no later than in the schedule
  pub next-earliest : earliest p placed g (mode_of s g) (last_start placed) ≤ start_of s g
  unfolding is_allowed finish
  next-earliest =
      earliest-le p placed g (mode_of s g) (last_start placed) (start_of s g) (follows.last g next.inside next.free)
      (and_from (are_ready p placed g (start_of s g)) (fits p placed g (mode_of s g) (start_of s g))
      (ready-from p placed g (start_of s g) (λ k d l before.
      let a = get_or placed k d in
      let ends : finish p s a.activity ≤ start_of s g = feasible.precedence a.activity g (follows.inside k d l) next.inside before in
      rw (follows.modes k d l) (omega (arith, follows.starts k d l))))
      (fits-from p placed g (mode_of s g) (start_of s g) room))

  -- with it placed no later than in the schedule, the tree still follows
  pub follows-push : (t : ℕ) → t ≤ start_of s g → Follows p s (placed ++ record { activity = g; mode = mode_of s g; start = t } ∷ [])
  follows-push t early =
      let new : Placed = record { activity = g; mode = mode_of s g; start = t } in
      let still : (j : ℕ) → is_placed (placed ++ new ∷ []) j ≡ false → is_placed placed j ≡ false = λ j free. (or_parts (is_placed placed j) (g == j) (sym (is_placed_push placed new j) ∙ free)).0 in
      record {
        inside = All-push (λ (a : Placed). a.activity < size p) placed new follows.inside next.inside;
        modes = All-push (λ (a : Placed). a.mode ≡ mode_of s a.activity) placed new follows.modes refl;
        starts = All-push (λ (a : Placed). a.start ≤ start_of s a.activity) placed new follows.starts early;
        distinct = IsDistinct-push placed new follows.distinct next.free;
        before = All-push (λ (a : Placed). (j : ℕ) → j < size p → is_placed (placed ++ new ∷ []) j ≡ false → start_of s a.activity ≤ start_of s j) placed new
            (λ k d l j inside free. follows.before k d l j inside (still j free))
            (λ j inside free. next.lowest j inside (still j free));
        last = λ j inside free. rw (last_start_push placed new) (le_trans early (next.lowest j inside (still j free)));
      }

-- nothing is placed at first
pub follows-nil : (p : ProjectData) (s : ScheduleData) → Follows p s []
unfolding last_start
follows-nil p s = record {
  inside = All-nil (λ (a : Placed). a.activity < size p);
  modes = All-nil (λ (a : Placed). a.mode ≡ mode_of s a.activity);
  starts = All-nil (λ (a : Placed). a.start ≤ start_of s a.activity);
  distinct = tt;
  before = All-nil (λ (a : Placed). (j : ℕ) → j < size p → is_placed [] j ≡ false → start_of s a.activity ≤ start_of s j);
  last = λ j inside free. zero-le;
}

pub mode_of-schedule_of : (n : ℕ) (placed : List Placed) (j : ℕ) → j < n → mode_of (schedule_of n placed) j ≡ mode_in placed j
unfolding mode_of schedule_of
mode_of-schedule_of n placed j l = omega (arith, get_or-map-range_with_len (λ j. mode_in placed j + 1) 0 n j j 0 l (omega arith))

pub start_of-schedule_of : (n : ℕ) (placed : List Placed) (j : ℕ) → j < n → start_of (schedule_of n placed) j ≡ start_in placed j
unfolding start_of schedule_of
start_of-schedule_of n placed j l = get_or-map-range_with_len (start_in placed) 0 n j j 0 l (omega arith)

-- with all placed, the schedule is no longer
pub follows-makespan : (p : ProjectData) (s : ScheduleData) (placed : List Placed) → Follows p s placed → length placed ≡ size p → makespan p (schedule_of (size p) placed) ≤ makespan p s
unfolding makespan finish
follows-makespan p s placed follows full =
    max_below-le (finish p (schedule_of (size p) placed)) (size p) (makespan p s) (λ j l.
    let here : is_placed placed j ≡ true = all_placed (size p) placed follows.distinct follows.inside full j l in
    let each : All (λ a. a.start + duration p a.activity a.mode ≤ finish p s a.activity) placed = λ k d h. rw (follows.modes k d h) (omega (arith, follows.starts k d h)) in
    let mine : start_in placed j + duration p j (mode_in placed j) ≤ finish p s j = looked_up (λ i m t. t + duration p i m ≤ finish p s i) placed j each here in
    rw (start_of-schedule_of (size p) placed j l, mode_of-schedule_of (size p) placed j l) (le_trans mine (at-le-max_below (finish p s) (size p) j l)))
