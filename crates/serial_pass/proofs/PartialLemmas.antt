-- A partial schedule, as it begins and with one activity more.
use Rattle.std.proofs.Common.{◌≡◌, ℕ, zero, suc, ◌+◌, ◌-◌, ◌/◌, ◌%◌, ◌<◌, ◌≤◌, ◌==◌, ◌↔◌, ◌||◌, ◌&&◌, ◌⊎◌, not, max, nat_le, nat_lt, Bool, true, false, List, [], ◌∷◌, ◌++◌, IsTrue, length, map, get_or, All, vec_capacity, arith, refl, sym, ap, ◌∙◌, subst, inl, inr, ⊎_elim}
use Rattle.std.specs.List.{list_any, list_all, range_with_len}
use Rattle.std.proofs.lemmas.Bool.{both_ways, cases_lt, cases_eq, cases_Bool, le-leb, leb-true, lt-ltb, ltb-true, cond-true, cond-false, eqb-true, eq-eqb, ne_eqb, or_cases, or_left, or_right, and_parts}
use Rattle.std.proofs.lemmas.List.{get_or_default, length_push}
use Rattle.std.proofs.lemmas.Nat.Bits.{bit_at-zero}
use Rattle.std.proofs.lemmas.List.FromFn.{get_or-map-range_with_len}
use Rattle.mrcpsp.specs.Limits.{IsProject}
use Rattle.mrcpsp.specs.Project.{ProjectData, size, mode_count, renewables, capacity, request, duration, consumption, stock, precedes}
use Rattle.mrcpsp.specs.Values.{least}
use Rattle.mrcpsp.specs.Placed.{Placed, are_ready, earliest, finish_of, fits, is_allowed, is_affordable, is_eligible, is_executable, is_placed, latest, placed_use}
use Rattle.mrcpsp.proofs.NumbersLemmas.{all-le-largest}
use Rattle.mrcpsp.proofs.PlacedLemmas.{is_placed_push}
use Rattle.mrcpsp.proofs.ProjectLemmas.{precedes-rising}
use Rattle.mrcpsp.proofs.BoundLemmas.{latest_push}
use Rattle.mrcpsp.proofs.EarliestLemmas.{allowed_at_latest, earliest-allowed, eligible-unplaced, eligible-after, eligible-from, fits-at, ready-from}
use Rattle.serial_sgs.specs.Board.{HasRoom, IsBoard, needed_of}
use Rattle.serial_sgs.specs.Members.{has}
use Rattle.serial_sgs.specs.Order.{IsAfter, missing_of}
use Rattle.serial_sgs.specs.Profile.{IsMore}
use Rattle.serial_sgs.specs.Rows.{IsRow, IsTable}
use Rattle.serial_sgs.specs.declared.rows.ModeRow.{ModeRow}
use Rattle.serial_sgs.proofs.BoardLemmas.{capacities_kept, count-lt-size, duration_small, few_placed, ineligible}
use Rattle.serial_sgs.proofs.KeptLemmas.{use_grows}
use Rattle.serial_sgs.proofs.OrderLemmas.{any_at, eligible_misses, missing_push, missing_some, there_all}
use Rattle.serial_sgs.proofs.RowLemmas.{capacity_small, consumption_small, request_past, request_small, stock_small, use_past}
use Rattle.serial_sgs.proofs.StockLemmas.{affordable_unplaced, amounts_small, needed_push}
use Rattle.serial_sgs.proofs.SumLemmas.{earliest_here, ready_before}
use Rattle.strategy.specs.Candidate.{Candidate, placed_from}
use Rattle.serial_pass.specs.declared.eligible.Eligible.{Eligible}
use Rattle.serial_pass.specs.declared.points.FreePoint.{FreePoint}
use Rattle.serial_pass.specs.declared.state.PassState.{PassState}
use Rattle.serial_pass.specs.declared.tables.PassTables.{PassTables}
use Rattle.serial_pass.specs.declared.waiting.Wait.{Wait}
use Rattle.serial_pass.specs.Eligible.{HasSums}
use Rattle.serial_pass.specs.Partial.{AreTables, IsState, left_of}
use Rattle.serial_pass.specs.Pass.{IsEarly, MayComeNext, grown}
use Rattle.serial_pass.specs.Points.{FitsAt, FitsFrom, IsFirstPoint, IsLeft, IsLinked, free_at, next_at, time_at}
use Rattle.serial_pass.specs.Waiting.{AreEligible, AreTold, AreWaiting, HaveEntered, IsWait, no_wait, told}
use Rattle.serial_pass.proofs.BoardLemmas.{IsOpenFor, early_grown, next-executable, next-unplaced}

-- ---- what is left, and the points

-- each period has a point before the end of time
cover : (points : List FreePoint) (fuel k u : ℕ) → IsLinked points → 4294967295 ≤ time_at points k + fuel → k < length points → time_at points k ≤ u → u < 4294967295 → (i : ℕ) × (i < length points) × (time_at points i ≤ u) × (u < time_at points (next_at points i))
cover points zero k u linked enough inside from under = absurd (omega (arith, enough, from, under))
cover points (suc fuel) k u linked enough inside from under =
    let next = linked.onward k inside (omega (arith, from, under)) in
    ⊎_elim
    (λ (here : u < time_at points (next_at points k)). (k, inside, from, here))
    (λ (later : time_at points (next_at points k) ≤ u). cover points fuel (next_at points k) u linked (omega (arith, enough, next.1)) next.0 later under)
    (cases_lt u (time_at points (next_at points k)))

module _ (p : ProjectData) (placed : List Placed) (j m : ℕ) (points : List FreePoint) (row : ModeRow) (board : IsBoard (record { project = p; placed = placed })) (known : j < size p) (moded : m < mode_count p j) (own : IsRow p j m row) (linked : IsLinked points) (left : IsLeft (left_of p placed) points) where
  -- a point with room for the row has it in each of its periods
  has_room : (k u : ℕ) → k < length points → time_at points k ≤ u → u < time_at points (next_at points k) → FitsAt points row.request k → HasRoom p placed j m u
  has_room k u inside from under fit r among =
      let within : r < 8 = omega (arith, among, board.project.few_renewable) in
      omega (arith, fit r within, left k r u inside within from under, own.request r within, capacities_kept p placed board r u among)

  -- and where there is room in one of its periods the row fits
  room_at : (k u : ℕ) → k < length points → time_at points k ≤ u → u < time_at points (next_at points k) → HasRoom p placed j m u → FitsAt points row.request k
  room_at k u inside from under room r within =
      ⊎_elim
      (λ (among : r < renewables p). omega (arith, left k r u inside within from under, own.request r within, room r among))
      (λ (past : renewables p ≤ r). omega (arith, own.request r within, request_past p j m r board.project known moded past))
      (cases_lt r (renewables p))

  pub few_free : (k r : ℕ) → k < length points → time_at points k < 4294967295 → r < 8 → free_at points k r ≤ 2000000000
  few_free k r inside soon within =
      omega (arith, left k r (time_at points k) inside within (omega arith) (linked.onward k inside soon).1, capacity_small p r board.project)

  -- from the latest finish on what is executable fits
  pub fits_late : is_executable p j m ≡ true → 0 < row.duration → (t : ℕ) → latest p placed ≤ t → FitsFrom points row.request t
  unfolding is_allowed
  fits_late can some t late k inside from soon =
      let u : ℕ = time_at points k in
      let parts = and_parts (are_ready p placed j u) (fits p placed j m u) (allowed_at_latest p placed j m u can (omega (arith, late, from))) in
      room_at k u inside (omega arith) (linked.onward k inside soon).1 (λ r among. fits-at p placed j m u parts.1 r u among (omega arith) (omega (arith, some, own.duration)))

  -- the first point is at the earliest start
  pub start_is : (w : Wait) (start : ℕ) → is_executable p j m ≡ true → IsWait p placed points j w → IsFirstPoint points row.request row.duration w.point start → time_at points start ≤ 1000000000 → row.duration ≤ 1000 → time_at points start ≡ earliest p placed j m 0
  unfolding is_allowed
  start_is w start can wait first early short =
      let e : ℕ = earliest p placed j m 0 in
      let s : ℕ = time_at points start in
      let exact : (t : ℕ) → 0 ≤ t → are_ready p placed j t ≡ nat_le w.ready t = λ t _. wait.ready t in
      let by : w.ready ≤ e = ready_before p placed j m 0 w.ready can exact in
      let parts = and_parts (are_ready p placed j e) (fits p placed j m e) (earliest-allowed p placed j m 0 can) in
      let no_sooner : s ≤ e =
      ⊎_elim
      (λ (sooner : e < s).
      let (k, inside, some, begins, ends, full) = first.first e (omega (arith, by, wait.time)) sooner in
      let u : ℕ = max e (time_at points k) in
      let soon : time_at points k < 4294967295 = omega (arith, begins, sooner, early, short) in
      let onward = linked.onward k inside soon in
      absurd (full (room_at k u inside (omega arith) (omega (arith, ends, onward.1)) (λ r among. fits-at p placed j m e parts.1 r u among (omega arith) (omega (arith, some, begins, own.duration))))))
      (λ (l : s ≤ e). l)
      (cases_lt e s) in
      earliest_here p placed j m 0 s (omega arith) no_sooner (wait.ready s ∙ le-leb w.ready s (omega (arith, first.above, wait.time)))
      (λ u from under.
      let (i, inside, begins, ends) = cover points 4294967295 start u linked (omega arith) first.inside from (omega (arith, under, early, short, own.duration)) in
      has_room i u inside begins ends
      (⊎_elim
      (λ (before : time_at points i < s). absurd (omega (arith, linked.nearest start i first.inside inside before, ends, from)))
      (λ (behind : s ≤ time_at points i). first.room i inside behind (omega (arith, begins, under, own.duration)))
      (cases_lt (time_at points i) s)))

-- what is left with one activity more
pub left_push : (p : ProjectData) (placed : List Placed) (a : Placed) (asked : List ℕ) (finish : ℕ) → IsBoard (record { project = p; placed = placed ++ a ∷ [] }) → finish ≡ a.start + duration p a.activity a.mode → ((r : ℕ) → r < 8 → get_or asked r 0 ≡ request p a.activity a.mode r) → IsMore 8 a.start finish asked (left_of p (placed ++ a ∷ [])) (left_of p placed)
left_push p placed a asked finish board ends own =
    let grows : IsMore 8 a.start finish asked (placed_use p placed) (placed_use p (placed ++ a ∷ [])) = use_grows p placed a finish asked 8 ends own in
    let kept : (r u : ℕ) → r < 8 → placed_use p (placed ++ a ∷ []) r u ≤ capacity p r = λ r u l.
    ⊎_elim
    (λ (among : r < renewables p). capacities_kept p (placed ++ a ∷ []) board r u among)
    (λ (past : renewables p ≤ r). omega (arith, use_past p (placed ++ a ∷ []) r u board.project board.inside past))
    (cases_lt r (renewables p)) in
    record {
      within = λ r u among from under. omega (arith, grows.within r u among from under, kept r u among);
      beyond = λ r u among out. omega (arith, grows.beyond r u among out);
    }

-- ---- who waits

not_by : (x y : ℕ) → y < x → nat_le x y ≡ false
not_by x y l = ⊎_elim (λ (e : nat_le x y ≡ true). absurd (omega (arith, leb-true x y e))) (λ e. e) (cases_Bool (nat_le x y))

list_all_push : (test : Placed → Bool) (xs : List Placed) (x : Placed) → list_all test (xs ++ x ∷ []) ≡ (list_all test xs && test x)
list_all_push test [] x = one (test x)
  where
    one : (b : Bool) → (b && true) ≡ (true && b)
    one true = refl
    one false = refl
list_all_push test (y ∷ xs) x = ap (λ b. test y && b) (list_all_push test xs x) ∙ regroup (test y) (list_all test xs) (test x)
  where
    regroup : (a b c : Bool) → (a && (b && c)) ≡ ((a && b) && c)
    regroup true b c = refl
    regroup false b c = refl

ready_more : (p : ProjectData) (placed : List Placed) (a : Placed) (j t : ℕ) → are_ready p (placed ++ a ∷ []) j t ≡ (are_ready p placed j t && (not (precedes p a.activity j) || nat_le (finish_of p a) t))
unfolding are_ready
ready_more p placed a j t = list_all_push (λ (b : Placed). not (precedes p b.activity j) || nat_le (finish_of p b) t) placed a

later_of : (x y t : ℕ) → (nat_le x t && nat_le y t) ≡ nat_le (max x y) t
later_of x y t =
    ⊎_elim
    (λ (early : t < x). rw (not_by x t early, not_by (max x y) t (omega (arith, early))) refl)
    (λ (late : x ≤ t).
    ⊎_elim
    (λ (too : t < y). rw (le-leb x t late, not_by y t too, not_by (max x y) t (omega (arith, too))) refl)
    (λ (by : y ≤ t). rw (le-leb x t late, le-leb y t by, le-leb (max x y) t (omega (arith, late, by))) refl)
    (cases_lt t y))
    (cases_lt t x)

and_true : (b : Bool) → (b && true) ≡ b
and_true true = refl
and_true false = refl

pub eligible_beside : (p : ProjectData) (placed : List Placed) (a : Placed) (j : ℕ) → a.activity < size p → (j ≡ a.activity → ⊥) → precedes p a.activity j ≡ false → is_eligible p (placed ++ a ∷ []) j ≡ is_eligible p placed j
eligible_beside p placed a j inside ne apart =
    let other : (a.activity == j) ≡ false = ⊎_elim (λ (e : (a.activity == j) ≡ true). absurd (ne (sym (eqb-true a.activity j e)))) (λ e. e) (cases_Bool (a.activity == j)) in
    let still : (i : ℕ) → is_placed placed i ≡ true → is_placed (placed ++ a ∷ []) i ≡ true = λ i e. is_placed_push placed a i ∙ or_left (is_placed placed i) (a.activity == i) e in
    let mine : is_placed (placed ++ a ∷ []) j ≡ is_placed placed j = is_placed_push placed a j ∙ or_no (is_placed placed j) (a.activity == j) other in
    ⊎_elim
    (λ (may : is_eligible p placed j ≡ true). eligible-from p (placed ++ a ∷ []) j (mine ∙ eligible-unplaced p placed j may) (λ i l first. still i (eligible-after p placed i j may l first)) ∙ sym may)
    (λ (not_yet : is_eligible p placed j ≡ false).
    ⊎_elim
    (λ (now : is_eligible p (placed ++ a ∷ []) j ≡ true).
    absurd (both_ways (is_eligible p placed j) not_yet (eligible-from p placed j (sym mine ∙ eligible-unplaced p (placed ++ a ∷ []) j now)
    (λ i l first.
    ⊎_elim
    (λ (before : is_placed placed i ≡ true). before)
    (λ (own : (a.activity == i) ≡ true). absurd (both_ways (precedes p a.activity j) apart (ap (λ (x : ℕ). precedes p x j) (eqb-true a.activity i own) ∙ first)))
    (or_cases (is_placed placed i) (a.activity == i) (sym (is_placed_push placed a i) ∙ eligible-after p (placed ++ a ∷ []) i j now l first))))))
    (λ e. e ∙ sym not_yet)
    (cases_Bool (is_eligible p (placed ++ a ∷ []) j)))
    (cases_Bool (is_eligible p placed j))
  where
    or_no : (x y : Bool) → y ≡ false → (x || y) ≡ x
    or_no true y e = refl
    or_no false y e = e

at_any : (xs : List ℕ) (j : ℕ) → list_any (λ s. s == j) xs ≡ true → (k : ℕ) × (k < length xs) × (get_or xs k 0 ≡ j)
at_any [] j e = absurd (both_ways false refl e)
at_any (x ∷ xs) j e =
    ⊎_elim
    (λ (here : (x == j) ≡ true). (zero, omega arith, eqb-true x j here))
    (λ (later : list_any (λ s. s == j) xs ≡ true). let (k, l, is) = at_any xs j later in (suc k, omega arith, is))
    (or_cases (x == j) (list_any (λ s. s == j) xs) e)

unlisted : (n : ℕ) (xs : List ℕ) (j : ℕ) → All (λ s. s < n) xs → n ≤ j → list_any (λ s. s == j) xs ≡ false
unlisted n xs j below past =
    ⊎_elim
    (λ (e : list_any (λ s. s == j) xs ≡ true). let (k, l, is) = at_any xs j e in absurd (omega (arith, below k 0 l, is, past)))
    (λ e. e)
    (cases_Bool (list_any (λ s. s == j) xs))

-- an activity that waits for the new one, or does not
pub waits_push : (p : ProjectData) (placed : List Placed) (a : Placed) (points later : List FreePoint) (waits now : List Wait) (after : List ℕ) (finish point : ℕ) → a.activity < size p → is_placed placed a.activity ≡ false → IsAfter p a.activity (size p) after → finish ≡ finish_of p a → ((k : ℕ) → k < length points → (k < length later) × (time_at later k ≡ time_at points k)) → point < length later → time_at later point ≡ finish → AreTold after finish point waits now → AreWaiting p placed points waits → AreWaiting p (placed ++ a ∷ []) later now
waits_push p placed a points later waits now after finish point inside new names ends times known there told_all was = record {
  count = told_all.count ∙ was.count;
  each = λ j l.
      let w : Wait = get_or waits j no_wait in
      let old : IsWait p placed points j w = was.each j l in
      let still = times w.point old.inside in
      ⊎_elim
      (λ (first : precedes p a.activity j ≡ true).
      let less : missing_of p (placed ++ a ∷ []) j + 1 ≡ missing_of p placed j = omega (arith, missing_push p placed a j inside new, cond-true {A = ℕ} (precedes p a.activity j) 1 0 first) in
      let mine : (t : ℕ) → are_ready p (placed ++ a ∷ []) j t ≡ nat_le (max w.ready finish) t = λ t. ready_more p placed a j t ∙ rw (first, old.ready t) (ap (λ (x : ℕ). nat_le w.ready t && nat_le x t) (sym ends) ∙ later_of w.ready finish t) in
      subst (IsWait p (placed ++ a ∷ []) later j) (sym (told_all.own j (names.members j l ∙ first)))
      (⊎_elim
      (λ (sooner : w.ready < finish). rw (lt-ltb w.ready finish sooner)
      (record { inside = known; time = omega (arith, there, sooner); ready = mine; missing = omega (arith, old.missing, less) }))
      (λ (no_sooner : finish ≤ w.ready). rw (not_lt w.ready finish no_sooner)
      (record { inside = still.0; time = omega (arith, still.1, old.time, no_sooner); ready = mine; missing = omega (arith, old.missing, less) }))
      (cases_lt w.ready finish)))
      (λ (apart : precedes p a.activity j ≡ false).
      subst (IsWait p (placed ++ a ∷ []) later j) (sym (told_all.rest j (names.members j l ∙ apart)))
      (record {
        inside = still.0;
        time = omega (arith, still.1, old.time);
        ready = λ t. ready_more p placed a j t ∙ rw apart (and_true (are_ready p placed j t) ∙ old.ready t);
        missing = omega (arith, old.missing, missing_push p placed a j inside new, cond-false {A = ℕ} (precedes p a.activity j) 1 0 apart);
      }))
      (cases_Bool (precedes p a.activity j));
}
  where
    not_lt : (x y : ℕ) → y ≤ x → nat_lt x y ≡ false
    not_lt x y l = ⊎_elim (λ (e : nat_lt x y ≡ true). absurd (omega (arith, ltb-true x y e, l))) (λ e. e) (cases_Bool (nat_lt x y))

-- who is placed misses nobody
abbrev pub MissNobody : ProjectData → List Placed → Type 0
MissNobody p placed = (j : ℕ) → j < size p → is_placed placed j ≡ true → missing_of p placed j ≡ 0

pub nobody_push : (p : ProjectData) (placed : List Placed) (a : Placed) → a.activity < size p → is_eligible p placed a.activity ≡ true → MissNobody p placed → MissNobody p (placed ++ a ∷ [])
nobody_push p placed a inside may was j l there =
    let push = missing_push p placed a j inside (eligible-unplaced p placed a.activity may) in
    ⊎_elim
    (λ (before : is_placed placed j ≡ true). omega (arith, push, was j l before))
    (λ (own : (a.activity == j) ≡ true). let is : missing_of p placed j ≡ 0 = ap (missing_of p placed) (sym (eqb-true a.activity j own)) ∙ eligible_misses p placed a.activity may in omega (arith, push, is))
    (or_cases (is_placed placed j) (a.activity == j) (sym (is_placed_push placed a j) ∙ there))

-- who is eligible with one activity more
pub eligible_push : (p : ProjectData) (placed : List Placed) (a : Placed) (points : List FreePoint) (now : List Wait) (after words less members : List ℕ) → IsProject p → MissNobody p placed → a.activity < size p → is_placed placed a.activity ≡ false → IsAfter p a.activity (size p) after → AreWaiting p (placed ++ a ∷ []) points now → AreEligible p placed words → has less a.activity ≡ false → ((j : ℕ) → (j ≡ a.activity → ⊥) → has less j ≡ has words j) → HaveEntered after now less members → AreEligible p (placed ++ a ∷ []) members
eligible_push p placed a points now after words less members ok nobody inside new names waits was gone kept entered =
    let x : ℕ = a.activity in
    let whole : List Placed = placed ++ a ∷ [] in
    record {
      own = λ j l.
          ⊎_elim
          (λ (first : precedes p x j ≡ true).
          let ne : j ≡ x → ⊥ = λ e. let rises : x < j = (precedes-rising p x j ok first).0 in omega (arith, e, rises) in
          let missed : 0 < missing_of p placed j = missing_some p placed x j inside first new in
          let unplaced : is_placed placed j ≡ false = ⊎_elim (λ (e : is_placed placed j ≡ true). absurd (omega (arith, nobody j l e, missed))) (λ e. e) (cases_Bool (is_placed placed j)) in
          let still : is_placed whole j ≡ false = is_placed_push placed a j ∙ or_two (is_placed placed j) (x == j) unplaced (ne_eqb x j (λ e. ne (sym e))) in
          let known : (get_or now j no_wait).missing ≡ missing_of p whole j = (waits.each j l).missing in
          entered.own j (names.members j l ∙ first) ∙ ap (λ (n : ℕ). n == 0) known
          ∙ ⊎_elim
          (λ (none : missing_of p whole j ≡ 0). eq-eqb (missing_of p whole j) 0 none ∙ sym (eligible-from p whole j still (λ i among before. there_all p whole i j none among before)))
          (λ (some : missing_of p whole j ≡ 0 → ⊥). ne_eqb (missing_of p whole j) 0 some ∙ sym (⊎_elim (λ (e : is_eligible p whole j ≡ true). absurd (some (eligible_misses p whole j e))) (λ e. e) (cases_Bool (is_eligible p whole j))))
          (cases_eq (missing_of p whole j) 0))
          (λ (apart : precedes p x j ≡ false).
          let beside : has members j ≡ has less j = entered.rest j (names.members j l ∙ apart) in
          ⊎_elim
          (λ (e : j ≡ x). beside ∙ ap (has less) e ∙ gone ∙ sym (ineligible p whole j (is_placed_push placed a j ∙ or_right (is_placed placed j) (x == j) (eq-eqb x j (sym e)))))
          (λ (ne : j ≡ x → ⊥). beside ∙ kept j ne ∙ was.own j l ∙ sym (eligible_beside p placed a j inside ne apart))
          (cases_eq j x))
          (cases_Bool (precedes p x j));
      others = λ j past below. entered.rest j (unlisted (size p) after j names.others.inside past) ∙ kept j (omega (arith, past, inside)) ∙ was.others j past below;
    }
  where
    or_two : (x y : Bool) → x ≡ false → y ≡ false → (x || y) ≡ false
    or_two x y e h = rw (e, h) refl

-- a stock less its need covers what a mode takes beyond the least exactly if the mode is affordable
pub affordable_by : (p : ProjectData) (placed : List Placed) (j m : ℕ) (slack extra : List ℕ) (answer : Bool) → IsBoard (record { project = p; placed = placed }) → j < size p → m < mode_count p j → is_placed placed j ≡ false → ((r : ℕ) → r < 8 → (get_or slack r 0 + needed_of p placed r) % 4294967296 ≡ stock p r) → ((r : ℕ) → r < 8 → get_or extra r 0 + least p j r ≡ consumption p j m r) → (IsTrue answer ↔ ((r : ℕ) → r < 8 → (get_or slack r 0 + (4294967296 - get_or extra r 0)) % 4294967296 < 2147483648)) → answer ≡ is_affordable p placed j m
affordable_by p placed j m slack extra answer board inside known new slacks own told =
    let needs : List ℕ = map (needed_of p placed) (range_with_len 0 8) in
    let stocks : List ℕ = map (stock p) (range_with_len 0 8) in
    let need : (r : ℕ) → r < 8 → get_or needs r 0 ≡ needed_of p placed r = λ r l. get_or-map-range_with_len (needed_of p placed) 0 8 r r 0 l (omega arith) in
    let there : (r : ℕ) → r < 8 → get_or stocks r 0 ≡ stock p r = λ r l. get_or-map-range_with_len (stock p) 0 8 r r 0 l (omega arith) in
    let small : (r : ℕ) → r < 8 → get_or needs r 0 ≤ 1000000000 = amounts_small p placed needs board need in
    affordable_unplaced p placed j m needs extra stocks answer board inside known new need own there (
      λ yes r l. omega (arith, told.0 yes r l, slacks r l, need r l, there r l, small r l, own r l, consumption_small p j m r board.project inside known, stock_small p r board.project),
      λ all. told.1 (λ r l. omega (arith, all r l, slacks r l, need r l, there r l, small r l, own r l, consumption_small p j m r board.project inside known, stock_small p r board.project)),
    )

-- ---- a node

-- what is known before the candidate is placed
pub record IsBefore (p : ProjectData) (t : PassTables) (s : PassState) (c : Candidate) (row : ModeRow) (w : Wait) : Type 0 where
  pub can : is_executable p c.activity c.mode ≡ true
  pub new : is_placed s.placed.items c.activity ≡ false
  pub own : IsRow p c.activity c.mode row
  pub wait : IsWait p s.placed.items s.points.items c.activity w
  pub short : row.duration ≤ 1000
  pub small : (r : ℕ) → r < 8 → get_or row.request r 0 ≤ 2000000000
  pub few : (k r : ℕ) → k < length s.points.items → time_at s.points.items k < 4294967295 → r < 8 → free_at s.points.items k r ≤ 2000000000
  pub soon : (e : ℕ) × (e < length s.points.items) × (time_at s.points.items e ≤ 1000000000) × (time_at s.points.items w.point ≤ time_at s.points.items e) × (0 < row.duration → FitsFrom s.points.items row.request (time_at s.points.items e))
  pub count : length s.placed.items < size p

pub before_is : (p : ProjectData) (t : PassTables) (s : PassState) (c : Candidate) (row : ModeRow) (w : Wait) → AreTables p t → IsState p s.placed.items false s → MayComeNext p s.placed.items c → IsRow p c.activity c.mode row → w ≡ get_or s.waiting.items c.activity no_wait → IsBefore p t s c row w
before_is p t s c row w tables state next own is =
    let placed : List Placed = s.placed.items in
    let board : IsBoard (record { project = p; placed = placed }) = state.early.board in
    let can : is_executable p c.activity c.mode ≡ true = next-executable p placed c next in
    let wait : IsWait p placed s.points.items c.activity w = subst (IsWait p placed s.points.items c.activity) (sym is) (state.waiting.each c.activity next.activity) in
    let (e, inside, last) = state.ended in
    let ready : are_ready p placed c.activity (latest p placed) ≡ true = ready-from p placed c.activity (latest p placed) (λ k d l first. all-le-largest (finish_of p) placed (latest p placed) (omega arith) k d l) in
    let by : w.ready ≤ latest p placed = leb-true w.ready (latest p placed) (sym (wait.ready (latest p placed)) ∙ ready) in
    record {
      can = can;
      new = next-unplaced p placed c next;
      own = own;
      wait = wait;
      short = omega (arith, own.duration, duration_small p c.activity c.mode board.project next.activity next.mode);
      small = λ r among. omega (arith, own.request r among, request_small p c.activity c.mode r board.project next.activity next.mode);
      few = few_free p placed c.activity c.mode s.points.items row board next.activity next.mode own state.linked state.left;
      soon = (e, inside, omega (arith, last, state.early.finish, few_placed p placed board), omega (arith, last, by, wait.time), λ some. fits_late p placed c.activity c.mode s.points.items row board next.activity next.mode own state.linked state.left can some (time_at s.points.items e) (omega (arith, last)));
      count = count-lt-size (record { project = p; placed = placed }) c.activity board next.activity (next-unplaced p placed c next);
    }

-- and what the fields of a pass tell
pub ready_for : (p : ProjectData) (t : PassTables) (s : PassState) (void : Bool) (c : Candidate) (row : ModeRow) (w : Wait) → AreTables p t → IsState p s.placed.items void s → IsOpenFor p s.placed.items void c → ((q : ProjectData) → IsTable q t.rows → c.activity < size q → c.mode < mode_count q c.activity → IsRow q c.activity c.mode row) → w ≡ get_or s.waiting.items c.activity w → IsBefore p t s c row w
ready_for p t s void c row w tables state may own is =
    before_is p t s c row w tables (subst (λ (v : Bool). IsState p s.placed.items v s) may.going state) may.next (own p tables.tabled may.next.activity may.next.mode) (is ∙ get_or_default s.waiting.items c.activity w no_wait (omega (arith, state.waiting.count, may.next.activity)))

-- what the steps of a node are
pub record IsNode (p : ProjectData) (t : PassTables) (s new : PassState) (c : Candidate) (row : ModeRow) (w : Wait) (start point : ℕ) (less : Eligible) : Type 0 where
  pub first : IsFirstPoint s.points.items row.request row.duration w.point start
  pub early : time_at s.points.items start ≤ 1000000000
  pub placed : new.placed.items ≡ s.placed.items ++ record { activity = c.activity; mode = c.mode; start = time_at s.points.items start } ∷ []
  pub memory : vec_capacity new.placed ≡ vec_capacity s.placed
  pub room : vec_capacity new.points ≡ vec_capacity s.points
  pub few : length new.points.items ≤ length s.points.items + 1
  pub linked : IsLinked new.points.items
  pub times : (k : ℕ) → k < length s.points.items → (k < length new.points.items) × (time_at new.points.items k ≡ time_at s.points.items k)
  pub inside : point < length new.points.items
  pub finish : time_at new.points.items point ≡ time_at s.points.items start + row.duration
  pub left : (left less : ℕ → ℕ → ℕ) → IsMore 8 (time_at s.points.items start) (time_at s.points.items start + row.duration) row.request less left → IsLeft left s.points.items → IsLeft less new.points.items
  pub slack : (r : ℕ) → r < 8 → get_or new.slack r 0 ≡ (get_or s.slack r 0 + (4294967296 - get_or row.extra r 0)) % 4294967296
  pub latest : new.latest ≡ max s.latest (time_at s.points.items start + row.duration)
  pub gone : has less.set c.activity ≡ false
  pub kept : (j : ℕ) → (j ≡ c.activity → ⊥) → has less.set j ≡ has s.eligible.set j
  pub told : AreTold (get_or t.after.items c.activity []) (time_at s.points.items start + row.duration) point s.waiting.items new.waiting.items
  pub entered : HaveEntered (get_or t.after.items c.activity []) new.waiting.items less.set new.eligible.set
  pub sums : HasSums p new.eligible

-- the placed activity
pub start_at : (p : ProjectData) (t : PassTables) (s new : PassState) (c : Candidate) (row : ModeRow) (w : Wait) (start point : ℕ) (less : Eligible) → AreTables p t → IsState p s.placed.items false s → MayComeNext p s.placed.items c → IsBefore p t s c row w → IsNode p t s new c row w start point less → new.placed.items ≡ grown p c s.placed.items
unfolding placed_from
start_at p t s new c row w start point less tables state next before node =
    let is : time_at s.points.items start ≡ earliest p s.placed.items c.activity c.mode 0 = start_is p s.placed.items c.activity c.mode s.points.items row state.early.board next.activity next.mode before.own state.linked state.left w start before.can before.wait node.first node.early before.short in
    node.placed ∙ ap (λ (n : ℕ). let a : Placed = record { activity = c.activity; mode = c.mode; start = n } in s.placed.items ++ a ∷ []) is

pub state_push : (p : ProjectData) (t : PassTables) (s new : PassState) (c : Candidate) (row : ModeRow) (w : Wait) (start point : ℕ) (less : Eligible) → AreTables p t → IsState p s.placed.items false s → MayComeNext p s.placed.items c → IsBefore p t s c row w → IsNode p t s new c row w start point less → IsState p new.placed.items false new
state_push p t s new c row w start point less tables state next before node =
    let placed : List Placed = s.placed.items in
    let begins : ℕ = time_at s.points.items start in
    let a : Placed = record { activity = c.activity; mode = c.mode; start = begins } in
    let finish : ℕ = begins + row.duration in
    let ends : finish ≡ finish_of p a = omega (arith, before.own.duration) in
    let is : grown p c placed ≡ placed ++ a ∷ [] = sym (start_at p t s new c row w start point less tables state next before node) ∙ node.placed in
    let early : IsEarly (record { project = p; placed = placed ++ a ∷ [] }) = subst (λ (xs : List Placed). IsEarly (record { project = p; placed = xs })) is (early_grown (record { project = p; placed = placed }) c state.early next) in
    let waits : AreWaiting p (placed ++ a ∷ []) new.points.items new.waiting.items = waits_push p placed a s.points.items new.points.items s.waiting.items new.waiting.items (get_or t.after.items c.activity []) finish point next.activity before.new (tables.after.each c.activity next.activity) ends node.times node.inside node.finish node.told state.waiting in
    let (e, inside, last) = state.ended in
    subst (λ (xs : List Placed). IsState p xs false new) (sym node.placed) (record {
      early = early;
      memory = node.memory ∙ state.memory;
      room = node.room ∙ state.room;
      few = omega (arith, node.few, state.few, length_push placed a);
      linked = node.linked;
      left = node.left (left_of p placed) (left_of p (placed ++ a ∷ [])) (left_push p placed a row.request finish early.board ends before.own.request) state.left;
      entered = nobody_push p placed a next.activity next.eligible state.entered;
      waiting = waits;
      slack = λ r l. omega (arith, node.slack r l, state.slack r l, needed_push p placed a r state.early.board early.board, before.own.extra r l, consumption_small p c.activity c.mode r early.board.project next.activity next.mode);
      ends = omega (arith, node.latest, state.ends, latest_push p placed a, ends);
      ended =
          ⊎_elim
          (λ (over : latest p placed ≤ finish). (point, node.inside, omega (arith, node.finish, latest_push p placed a, ends, over)))
          (λ (under : finish < latest p placed). (e, (node.times e inside).0, omega (arith, (node.times e inside).1, last, latest_push p placed a, ends, under)))
          (cases_le (latest p placed) finish);
      sums = node.sums;
      going = λ _. eligible_push p placed a new.points.items new.waiting.items (get_or t.after.items c.activity []) s.eligible.set less.set new.eligible.set early.board.project state.entered next.activity before.new (tables.after.each c.activity next.activity) waits (state.going refl) node.gone node.kept node.entered;
      over = λ e. absurd (both_ways false refl e);
    })
  where
    cases_le : (x y : ℕ) → (x ≤ y) ⊎ (y < x)
    cases_le x y = ⊎_elim (λ (l : y < x). inr l) (λ (l : x ≤ y). inl l) (cases_lt y x)

-- an activity in a list of successors
pub after_at : (p : ProjectData) (i : ℕ) (after : List ℕ) (k d : ℕ) → IsAfter p i (size p) after → k < length after → (get_or after k d < size p) × (precedes p i (get_or after k d) ≡ true)
after_at p i after k d names l =
    let among : get_or after k d < size p = names.others.inside k d l in
    (among, sym (names.members (get_or after k d) among) ∙ any_at after k d l)

zero_at : (w : ℕ) → get_or {A = ℕ} (0 ∷ 0 ∷ 0 ∷ 0 ∷ []) w 0 ≡ 0
zero_at zero = refl
zero_at (suc zero) = refl
zero_at (suc (suc zero)) = refl
zero_at (suc (suc (suc zero))) = refl
zero_at (suc (suc (suc (suc w)))) = refl

-- an empty set has no members
pub empty_set : (j : ℕ) → has (0 ∷ 0 ∷ 0 ∷ 0 ∷ []) j ≡ false
unfolding has
empty_set j = rw (zero_at (j / 64), bit_at-zero (j % 64)) refl
