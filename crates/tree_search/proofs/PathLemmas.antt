-- The stages of a path, as one more is placed or the last one is taken back.
use Rattle.std.proofs.Common.{◌≡◌, ℕ, zero, suc, ◌+◌, ◌*◌, ◌-◌, ◌/◌, ◌%◌, ◌<◌, ◌≤◌, ◌==◌, ◌↔◌, ◌||◌, nat_lt, cond, Bool, true, false, List, [], ◌∷◌, ◌++◌, IsTrue, length, fold, map, get_or, set, take, length-set, take_all, All, arith, refl, sym, ap, ◌∙◌, subst, ⊎_elim, Option, None, Some, MatchOption}
use Rattle.std.specs.List.{slice_range, list_any, range_with_len}
use Rattle.std.proofs.lemmas.Bool.{and_parts, both_ways, cases_lt, cases_eq, cases_Bool, eqb-true, eqb-false, eq-eqb, ne_eqb, or_cases, or_left, or_right, or_parts}
use Rattle.std.proofs.lemmas.List.{get_or_past, take-append-le, take_more, length-take-le, get_or-take, get_or_default, get_or_append_left, get_or_push, length_push, get_or-set_same, get_or-set_other}
use Rattle.std.proofs.lemmas.Nat.Bits.{bit_at-zero}
use Rattle.std.proofs.lemmas.List.Elements.{All-nil, All-head, All-tail}
use Rattle.std.proofs.lemmas.List.Recursion.{or_push}
use Rattle.std.proofs.lemmas.List.FromFn.{get_or-map-range_with_len}
use Rattle.mrcpsp.specs.Limits.{IsProject}
use Rattle.mrcpsp.specs.Project.{ProjectData, size, renewables, nonrenewables, mode_count, consumption, stock, precedes}
use Rattle.mrcpsp.specs.Values.{least}
use Rattle.strategy.specs.Candidate.{is_allowed_mode}
use Rattle.mrcpsp.specs.Placed.{Placed, finish_of, is_allowed, is_placed, is_eligible, is_affordable, is_executable, last_start}
use Rattle.mrcpsp.proofs.PlacedLemmas.{each_is_placed, is_placed_push, last_start_push, looked_up}
use Rattle.mrcpsp.proofs.ProjectLemmas.{precedes-rising}
use Rattle.mrcpsp.proofs.EarliestLemmas.{eligible-unplaced, eligible-after, eligible-from}
use Rattle.serial_sgs.specs.Board.{IsBoard, IsInside, IsNextEligible, NoneEligible, needed_of}
use Rattle.serial_sgs.specs.Members.{has, IsNext, IsOver}
use Rattle.serial_sgs.specs.Order.{AreReadied, AreRenewed, HasAfter, HasBefore, IsBefore, IsLatest, missing_of}
use Rattle.serial_sgs.proofs.BoardLemmas.{board_empty, board_push, board_pop, duration_small, ineligible, ineligible_after}
use Rattle.serial_sgs.proofs.OrderLemmas.{AreNoted, noted_push, noted_pop, readied_push, readied_pop, all_there, there_all}
use Rattle.serial_sgs.proofs.RowLemmas.{capacity_past, capacity_small, consumption_small, stock_small}
use Rattle.serial_sgs.proofs.StockLemmas.{needed_push, alone_at_end, affordable_unplaced, amounts_small}
use Rattle.tree_search.specs.declared.front.Running.{Running}
use Rattle.tree_search.specs.declared.path.Stage.{Stage}
use Rattle.tree_search.specs.declared.table.Row.{Row}
use Rattle.tree_search.specs.declared.table.Table.{Table}
use Rattle.tree_search.specs.Table.{IsLine, IsLines, no_row}
use Rattle.tree_search.specs.Front.{AreNone, IsFrontOf, IsRising, left_at}
use Rattle.tree_search.specs.Path.{AreDone, AreReached, AreStages, HasEntered, IsBlank, IsCovered, IsFirstStage, IsHopeless, IsPath, IsStage, IsTaken, WereEligible, no_stage, triangle}
use Rattle.tree_search.proofs.FrontLemmas.{empty_range, range_before, range_kept}
use Rattle.tree_search.proofs.NodeLemmas.{last_start_none}
use Rattle.tree_search.specs.Width.{IsNone}
use Rattle.tree_search.proofs.WidthLemmas.{extra_none, left_none}
use Rattle.tree_search.proofs.PlacedLemmas.{front_enough, front_first, front_most, front_push}

pub triangle_rises : (i k : ℕ) → i ≤ k → triangle i ≤ triangle k
triangle_rises i zero l = let none : i ≡ 0 = omega arith in rw none (omega arith)
triangle_rises i (suc k) l =
    ⊎_elim
    (λ (e : i ≡ suc k). rw e (omega arith))
    (λ (ne : i ≡ suc k → ⊥). omega (arith, triangle_rises i k (omega arith)))
    (cases_eq i (suc k))

pub triangle_next : (n : ℕ) → triangle (n + 1) ≡ triangle n + n + 1
triangle_next n = let next : n + 1 ≡ suc n = omega arith in rw next (omega arith)

pub triangle_small : (n : ℕ) → n ≤ 202 → triangle n ≤ n * 203
triangle_small zero l = omega arith
triangle_small (suc n) l = omega (arith, triangle_small n (omega arith))

-- ---- who is placed

placed_take : (placed : List Placed) (k j : ℕ) → is_placed (take k placed) j ≡ true → is_placed placed j ≡ true
placed_take [] zero j e = e
placed_take [] (suc k) j e = e
placed_take (a ∷ placed) zero j e = absurd (both_ways false refl e)
placed_take (a ∷ placed) (suc k) j e =
    ⊎_elim
    (λ (here : (a.activity == j) ≡ true). or_left (a.activity == j) (is_placed placed j) here)
    (λ (there : is_placed (take k placed) j ≡ true). or_right (a.activity == j) (is_placed placed j) (placed_take placed k j there))
    (or_cases (a.activity == j) (is_placed (take k placed) j) e)

placed_where : (placed : List Placed) (j : ℕ) (d : Placed) → is_placed placed j ≡ true → (k : ℕ) × (k < length placed) × ((get_or placed k d).activity ≡ j)
placed_where [] j d e = absurd (both_ways false refl e)
placed_where (a ∷ placed) j d e =
    ⊎_elim
    (λ (here : (a.activity == j) ≡ true). (zero, omega arith, eqb-true a.activity j here))
    (λ (there : is_placed placed j ≡ true). let (k, l, is) = placed_where placed j d there in (suc k, omega arith, is))
    (or_cases (a.activity == j) (is_placed placed j) e)

-- who comes after one that is not placed is not placed
pub unplaced_after : (p : ProjectData) (placed : List Placed) (i j : ℕ) (d : Placed) → WereEligible p placed → i < size p → precedes p i j ≡ true → is_placed placed i ≡ false → is_placed placed j ≡ false
unplaced_after p placed i j d entered inside first missing =
    ⊎_elim
    (λ (e : is_placed placed j ≡ true).
    let (k, l, is) = placed_where placed j d e in
    let may : is_eligible p (take k placed) j ≡ true = subst (λ (x : ℕ). is_eligible p (take k placed) x ≡ true) is (entered k d l) in
    absurd (both_ways (is_placed placed i) missing (placed_take placed k i (eligible-after p (take k placed) i j may inside first))))
    (λ e. e)
    (cases_Bool (is_placed placed j))

pub entered_push : (p : ProjectData) (placed : List Placed) (a : Placed) → WereEligible p placed → is_eligible p placed a.activity ≡ true → WereEligible p (placed ++ a ∷ [])
entered_push p placed a entered may k d l =
    ⊎_elim
    (λ (before : k < length placed). rw (get_or_append_left placed (a ∷ []) d k before, take-append-le k placed (a ∷ []) (omega arith)) (entered k d before))
    (λ (over : length placed ≤ k).
    let last : length placed ≡ k = omega (arith, length_push placed a) in
    rw (get_or_push placed a d k last, take-append-le k placed (a ∷ []) (omega arith), take_all k placed (omega arith)) may)
    (cases_lt k (length placed))

pub entered_pop : (p : ProjectData) (placed : List Placed) (a : Placed) → WereEligible p (placed ++ a ∷ []) → WereEligible p placed
entered_pop p placed a entered k d l =
    rw (get_or_append_left placed (a ∷ []) d k l, take-append-le k placed (a ∷ []) (omega arith)) at (entered k d (omega (arith, length_push placed a)))

-- ---- who is eligible with one more

-- in a row of predecessors all are done exactly if all are placed
pub done_placed : (p : ProjectData) (placed : List Placed) (j : ℕ) (before ends : List ℕ) → IsBoard (record { project = p; placed = placed }) → IsBefore p j (size p) before → AreNoted p placed ends → ((i : ℕ) → i < size p → is_placed placed i ≡ false → get_or ends i 0 ≡ 4294967295) → AreDone before ends → (i : ℕ) → i < size p → precedes p i j ≡ true → is_placed placed i ≡ true
done_placed p placed j before ends board names noted never done i inside first =
    let (k, l, is) = names.all i inside first in
    ⊎_elim
    (λ (e : is_placed placed i ≡ true). e)
    (λ (e : is_placed placed i ≡ false). absurd (omega (arith, done k l, ap (λ (x : ℕ). get_or ends x 0) is, never i inside e)))
    (cases_Bool (is_placed placed i))

pub placed_done : (p : ProjectData) (placed : List Placed) (j : ℕ) (before ends : List ℕ) → IsBoard (record { project = p; placed = placed }) → IsBefore p j (size p) before → AreNoted p placed ends → ((i : ℕ) → i < size p → precedes p i j ≡ true → is_placed placed i ≡ true) → AreDone before ends
placed_done p placed j before ends board names noted there k l =
    let i : ℕ = get_or before k 0 in
    let name = names.each k l in
    looked_up (λ x m t. get_or ends x 0 < 4294967295) placed i (λ n d inside.
    let a = get_or placed n d in
    let known : IsInside p a = board.inside n d inside in
    omega (arith, noted n d inside, known.start, duration_small p a.activity a.mode board.project known.activity known.mode))
    (there i name.0 name.1)

-- one that does not wait for the new one stays as it was
pub eligible_beside : (p : ProjectData) (placed : List Placed) (a : Placed) (j : ℕ) → a.activity < size p → (j ≡ a.activity → ⊥) → precedes p a.activity j ≡ false → is_eligible p (placed ++ a ∷ []) j ≡ is_eligible p placed j
eligible_beside p placed a j inside ne apart =
    let other : (a.activity == j) ≡ false = ⊎_elim (λ (e : (a.activity == j) ≡ true). absurd (ne (sym (eqb-true a.activity j e)))) (λ e. e) (cases_Bool (a.activity == j)) in
    let still : (i : ℕ) → is_placed placed i ≡ true → is_placed (placed ++ a ∷ []) i ≡ true = λ i e. is_placed_push placed a i ∙ or_left (is_placed placed i) (a.activity == i) e in
    let mine : is_placed (placed ++ a ∷ []) j ≡ is_placed placed j = is_placed_push placed a j ∙ or_no (is_placed placed j) (a.activity == j) other in
    ⊎_elim
    (λ (may : is_eligible p placed j ≡ true). eligible-from p (placed ++ a ∷ []) j (mine ∙ eligible-unplaced p placed j may) (λ i l first. still i (eligible-after p placed i j may l first)) ∙ sym may)
    (λ (not_yet : is_eligible p placed j ≡ false).
    ⊎_elim
    (λ (now : is_eligible p (placed ++ a ∷ []) j ≡ true).
    absurd (both_ways (is_eligible p placed j) not_yet (eligible-from p placed j (sym mine ∙ eligible-unplaced p (placed ++ a ∷ []) j now)
    (λ i l first.
    ⊎_elim
    (λ (before : is_placed placed i ≡ true). before)
    (λ (own : (a.activity == i) ≡ true). absurd (both_ways (precedes p a.activity j) apart (ap (λ (x : ℕ). precedes p x j) (eqb-true a.activity i own) ∙ first)))
    (or_cases (is_placed placed i) (a.activity == i) (sym (is_placed_push placed a i) ∙ eligible-after p (placed ++ a ∷ []) i j now l first))))))
    (λ e. e ∙ sym not_yet)
    (cases_Bool (is_eligible p (placed ++ a ∷ []) j)))
    (cases_Bool (is_eligible p placed j))
  where
    or_no : (x y : Bool) → y ≡ false → (x || y) ≡ x
    or_no true y e = refl
    or_no false y e = e

-- what is needed of `HasEntered`, in the words of the project
pub record Entered (p : ProjectData) (placed : List Placed) (a : Placed) (now : List ℕ) : Type 0 where
  pub eligible : (j : ℕ) → j < size p → has now j ≡ is_eligible p (placed ++ a ∷ []) j
  pub others : (j : ℕ) → size p ≤ j → j < 256 → has now j ≡ false

at_any : (xs : List ℕ) (j : ℕ) → list_any (λ s. s == j) xs ≡ true → (k : ℕ) × (k < length xs) × (get_or xs k 0 ≡ j)
at_any [] j e = absurd (both_ways false refl e)
at_any (x ∷ xs) j e =
    ⊎_elim
    (λ (here : (x == j) ≡ true). (zero, omega arith, eqb-true x j here))
    (λ (later : list_any (λ s. s == j) xs ≡ true). let (k, l, is) = at_any xs j later in (suc k, omega arith, is))
    (or_cases (x == j) (list_any (λ s. s == j) xs) e)

any_at : (xs : List ℕ) (k : ℕ) → k < length xs → list_any (λ s. s == get_or xs k 0) xs ≡ true
any_at [] k l = absurd (omega arith)
any_at (x ∷ xs) zero l = or_left (x == x) (list_any (λ s. s == x) xs) (eq-eqb x x refl)
any_at (x ∷ xs) (suc k) l = or_right (x == get_or xs k 0) (list_any (λ s. s == get_or xs k 0) xs) (any_at xs k (omega arith))

-- who comes after another has a predecessor
pub reached_in : (p : ProjectData) (table afters : List (List ℕ)) (i : ℕ) → HasBefore p (size p) table → HasAfter p (size p) afters → i < size p → AreReached table (get_or afters i [])
reached_in p table afters i before after inside k l =
    let xs : List ℕ = get_or afters i [] in
    let s : ℕ = get_or xs k 0 in
    let mine = after.each i inside in
    let known : s < size p = mine.others.inside k 0 l in
    let first : precedes p i s ≡ true = sym (mine.members s known) ∙ any_at xs k l in
    let (n, within, _) = (before.each s known).all i inside first in
    omega (arith, within)

unlisted : (n : ℕ) (xs : List ℕ) (j : ℕ) → All (λ s. s < n) xs → n ≤ j → list_any (λ s. s == j) xs ≡ false
unlisted n xs j below past =
    ⊎_elim
    (λ (e : list_any (λ s. s == j) xs ≡ true). let (k, l, is) = at_any xs j e in absurd (omega (arith, below k 0 l, is, past)))
    (λ e. e)
    (cases_Bool (list_any (λ s. s == j) xs))

pub entered_now : (p : ProjectData) (placed : List Placed) (a : Placed) (table afters : List (List ℕ)) (ends words less now readies later : List ℕ) → IsBoard (record { project = p; placed = placed ++ a ∷ [] }) → WereEligible p placed → a.activity < size p → is_placed placed a.activity ≡ false → HasBefore p (size p) table → HasAfter p (size p) afters → AreNoted p (placed ++ a ∷ []) ends → ((i : ℕ) → i < size p → is_placed (placed ++ a ∷ []) i ≡ false → get_or ends i 0 ≡ 4294967295) → ((j : ℕ) → j < size p → has words j ≡ is_eligible p placed j) → ((j : ℕ) → size p ≤ j → j < 256 → has words j ≡ false) → has less a.activity ≡ false → ((j : ℕ) → (j ≡ a.activity → ⊥) → has less j ≡ has words j) → HasEntered (get_or afters a.activity []) table ends less readies now later → Entered p placed a now
entered_now p placed a table afters ends words less now readies later board entered inside new before after noted never was none gone kept has_entered =
    let x : ℕ = a.activity in
    let whole : List Placed = placed ++ a ∷ [] in
    let mine = after.each x inside in
    record {
      eligible = λ j l.
          ⊎_elim
          (λ (first : precedes p x j ≡ true).
          let listed : list_any (λ s. s == j) (get_or afters x []) ≡ true = mine.members j l ∙ first in
          let (k, at, is) = at_any (get_or afters x []) j listed in
          let ne : j ≡ x → ⊥ = λ e. let rises : x < j = (precedes-rising p x j board.project first).0 in omega (arith, e, rises) in
          let names : IsBefore p j (size p) (get_or table j []) = before.each j l in
          let waited : has less j ≡ false = kept j ne ∙ was j l ∙ ineligible_after p placed x j inside first new in
          let unplaced : is_placed whole j ≡ false = is_placed_push placed a j ∙ or_two (is_placed placed j) (x == j) (unplaced_after p placed x j a entered inside first new) (not_same x j ne) in
          ⊎_elim
          (λ (none_missing : missing_of p whole j ≡ 0).
          let there : (i : ℕ) → i < size p → precedes p i j ≡ true → is_placed whole i ≡ true = λ i among before_it. there_all p whole i j none_missing among before_it in
          let done : AreDone (get_or table j []) ends = placed_done p whole j (get_or table j []) ends board names noted there in
          let done_at : AreDone (get_or table (get_or (get_or afters x []) k 0) []) ends = subst (λ (s : ℕ). AreDone (get_or table s []) ends) (sym is) done in
          ap (has now) (sym is) ∙ (has_entered.ready k at done_at).0 ∙ sym (eligible-from p whole j unplaced there))
          (λ (some_missing : missing_of p whole j ≡ 0 → ⊥).
          let undone : AreDone (get_or table (get_or (get_or afters x []) k 0) []) ends → ⊥ =
          λ done. some_missing (all_there p whole j (done_placed p whole j (get_or table j []) ends board names noted never (subst (λ (s : ℕ). AreDone (get_or table s []) ends) is done))) in
          ap (has now) (sym is) ∙ has_entered.waiting k at undone ∙ ap (has less) is ∙ waited
          ∙ sym (⊎_elim (λ (e : is_eligible p whole j ≡ true). absurd (some_missing (all_there p whole j (λ i among before_it. eligible-after p whole i j e among before_it)))) (λ e. e) (cases_Bool (is_eligible p whole j))))
          (cases_eq (missing_of p whole j) 0))
          (λ (apart : precedes p x j ≡ false).
          let beside : has now j ≡ has less j = (has_entered.others j (mine.members j l ∙ apart)).0 in
          ⊎_elim
          (λ (e : j ≡ x). beside ∙ ap (has less) e ∙ gone ∙ sym (ineligible p whole j (is_placed_push placed a j ∙ or_right (is_placed placed j) (x == j) (eq-eqb x j (sym e)))))
          (λ (ne : j ≡ x → ⊥). beside ∙ kept j ne ∙ was j l ∙ sym (eligible_beside p placed a j inside ne apart))
          (cases_eq j x))
          (cases_Bool (precedes p x j));
      others = λ j past below.
          (has_entered.others j (unlisted (size p) (get_or afters x []) j mine.others.inside past)).0 ∙ kept j (omega (arith, past, inside)) ∙ none j past below;
    }
  where
    or_two : (x y : Bool) → x ≡ false → y ≡ false → (x || y) ≡ false
    or_two x y e h = rw (e, h) refl

    not_same : (x j : ℕ) → (j ≡ x → ⊥) → (x == j) ≡ false
    not_same x j ne = ⊎_elim (λ (e : (x == j) ≡ true). absurd (ne (sym (eqb-true x j e)))) (λ e. e) (cases_Bool (x == j))

-- ---- who enters, one after the other

pub entered_none : (table : List (List ℕ)) (ends words readies : List ℕ) → HasEntered [] table ends words readies words readies
entered_none table ends words readies = record {
  count = refl;
  ready = λ k l. absurd (omega arith);
  waiting = λ k l. absurd (omega arith);
  others = λ j _. (refl, refl);
}

listed_next : (after : List ℕ) (i j : ℕ) → i < length after → list_any (λ s. s == j) (take (i + 1) after) ≡ (list_any (λ s. s == j) (take i after) || (get_or after i 0 == j))
listed_next after i j inside =
    ap (list_any (λ s. s == j)) (take_more after i 0 inside) ∙ or_push (λ xs. list_any (λ s. s == j) xs) (λ s. s == j) refl (λ _ _. refl) (take i after) (get_or after i 0)

-- the next one in the list, whose predecessors are all placed
pub entered_next : (after : List ℕ) (table : List (List ℕ)) (ends words readies now later more : List ℕ) (i x latest : ℕ) → i < length after → x ≡ get_or after i 0 → x < length later → IsLatest (get_or table x []) ends latest → has more x ≡ true → ((j : ℕ) → (j ≡ x → ⊥) → has more j ≡ has now j) → AreDone (get_or table x []) ends → HasEntered (take i after) table ends words readies now later → HasEntered (take (i + 1) after) table ends words readies more (set later x latest)
entered_next after table ends words readies now later more i x latest inside is among fresh own rest done was =
    let short : length (take (i + 1) after) ≡ i + 1 = length-take-le (i + 1) after (omega (arith, inside)) in
    let at : (k : ℕ) → k < i + 1 → get_or (take (i + 1) after) k 0 ≡ get_or after k 0 = λ k l. get_or-take (i + 1) after k 0 l in
    let earlier : (k : ℕ) → k < i → get_or (take i after) k 0 ≡ get_or after k 0 = λ k l. get_or-take i after k 0 l in
    let before : length (take i after) ≡ i = length-take-le i after (omega (arith, inside)) in
    record {
      count = length-set later x latest ∙ was.count;
      ready = λ k l all.
          ⊎_elim
          (λ (e : get_or (take (i + 1) after) k 0 ≡ x). rw (e, get_or-set_same later x latest 0 among) (own, fresh))
          (λ (ne : get_or (take (i + 1) after) k 0 ≡ x → ⊥).
          let m : k < i + 1 = omega (arith, l, short) in
          let lower : k < i = ⊎_elim (λ (e : k ≡ i). absurd (ne (at k m ∙ ap (λ (n : ℕ). get_or after n 0) e ∙ sym is))) (λ (other : k ≡ i → ⊥). omega (arith, m)) (cases_eq k i) in
          let same : get_or (take (i + 1) after) k 0 ≡ get_or (take i after) k 0 = at k m ∙ sym (earlier k lower) in
          rw (rest (get_or (take (i + 1) after) k 0) ne, get_or-set_other later x (get_or (take (i + 1) after) k 0) latest 0 ne)
          (subst (λ (s : ℕ). (has now s ≡ true) × IsLatest (get_or table s []) ends (get_or later s 0)) (sym same) (was.ready k (omega (arith, lower, before)) (subst (λ (s : ℕ). AreDone (get_or table s []) ends) same all))))
          (cases_eq (get_or (take (i + 1) after) k 0) x);
      waiting = λ k l undone.
          ⊎_elim
          (λ (e : get_or (take (i + 1) after) k 0 ≡ x). absurd (undone (rw e done)))
          (λ (ne : get_or (take (i + 1) after) k 0 ≡ x → ⊥).
          let m : k < i + 1 = omega (arith, l, short) in
          let lower : k < i = ⊎_elim (λ (e : k ≡ i). absurd (ne (at k m ∙ ap (λ (n : ℕ). get_or after n 0) e ∙ sym is))) (λ (other : k ≡ i → ⊥). omega (arith, m)) (cases_eq k i) in
          let same : get_or (take (i + 1) after) k 0 ≡ get_or (take i after) k 0 = at k m ∙ sym (earlier k lower) in
          rest (get_or (take (i + 1) after) k 0) ne
          ∙ subst (λ (s : ℕ). has now s ≡ has words s) (sym same) (was.waiting k (omega (arith, lower, before)) (λ all. undone (subst (λ (s : ℕ). AreDone (get_or table s []) ends) (sym same) all))))
          (cases_eq (get_or (take (i + 1) after) k 0) x);
      others = λ j apart.
          let parts = or_parts (list_any (λ s. s == j) (take i after)) (get_or after i 0 == j) (sym (listed_next after i j inside) ∙ apart) in
          let ne : j ≡ x → ⊥ = λ e. eqb-false (get_or after i 0) j parts.1 (sym (e ∙ is)) in
          let other = was.others j parts.0 in
          (rest j ne ∙ other.0, get_or-set_other later x j latest 0 ne ∙ other.1);
    }

-- the next one in the list, of whose predecessors one is missing
pub entered_later : (after : List ℕ) (table : List (List ℕ)) (ends words readies now later : List ℕ) (i x : ℕ) → i < length after → x ≡ get_or after i 0 → (AreDone (get_or table x []) ends → ⊥) → HasEntered (take i after) table ends words readies now later → HasEntered (take (i + 1) after) table ends words readies now later
entered_later after table ends words readies now later i x inside is undone was =
    let short : length (take (i + 1) after) ≡ i + 1 = length-take-le (i + 1) after (omega (arith, inside)) in
    let at : (k : ℕ) → k < i + 1 → get_or (take (i + 1) after) k 0 ≡ get_or after k 0 = λ k l. get_or-take (i + 1) after k 0 l in
    let earlier : (k : ℕ) → k < i → get_or (take i after) k 0 ≡ get_or after k 0 = λ k l. get_or-take i after k 0 l in
    let before : length (take i after) ≡ i = length-take-le i after (omega (arith, inside)) in
    let still : has now x ≡ has words x =
    ⊎_elim
    (λ (listed : list_any (λ s. s == x) (take i after) ≡ true).
    let (n, within, same) = at_any (take i after) x listed in
    subst (λ (s : ℕ). has now s ≡ has words s) same (was.waiting n within (λ all. undone (subst (λ (s : ℕ). AreDone (get_or table s []) ends) same all))))
    (λ (apart : list_any (λ s. s == x) (take i after) ≡ false). (was.others x apart).0)
    (cases_Bool (list_any (λ s. s == x) (take i after))) in
    record {
      count = was.count;
      ready = λ k l all.
          let m : k < i + 1 = omega (arith, l, short) in
          let lower : k < i = ⊎_elim (λ (e : k ≡ i). absurd (undone (subst (λ (s : ℕ). AreDone (get_or table s []) ends) (at k m ∙ ap (λ (n : ℕ). get_or after n 0) e ∙ sym is) all))) (λ (other : k ≡ i → ⊥). omega (arith, m)) (cases_eq k i) in
          let same : get_or (take (i + 1) after) k 0 ≡ get_or (take i after) k 0 = at k m ∙ sym (earlier k lower) in
          subst (λ (s : ℕ). (has now s ≡ true) × IsLatest (get_or table s []) ends (get_or later s 0)) (sym same) (was.ready k (omega (arith, lower, before)) (subst (λ (s : ℕ). AreDone (get_or table s []) ends) same all));
      waiting = λ k l not_done.
          let m : k < i + 1 = omega (arith, l, short) in
          ⊎_elim
          (λ (e : k ≡ i). let here : get_or (take (i + 1) after) k 0 ≡ x = at k m ∙ ap (λ (n : ℕ). get_or after n 0) e ∙ sym is in rw here still)
          (λ (other : k ≡ i → ⊥).
          let lower : k < i = omega (arith, m) in
          let same : get_or (take (i + 1) after) k 0 ≡ get_or (take i after) k 0 = at k m ∙ sym (earlier k lower) in
          subst (λ (s : ℕ). has now s ≡ has words s) (sym same) (was.waiting k (omega (arith, lower, before)) (λ all. not_done (subst (λ (s : ℕ). AreDone (get_or table s []) ends) (sym same) all))))
          (cases_eq k i);
      others = λ j gone. was.others j (or_parts (list_any (λ s. s == j) (take i after)) (get_or after i 0 == j) (sym (listed_next after i j inside) ∙ gone)).0;
    }

-- other words with the same members
pub entered_as : (after : List ℕ) (table : List (List ℕ)) (ends words readies now later same : List ℕ) → ((j : ℕ) → has same j ≡ has now j) → HasEntered after table ends words readies now later → HasEntered after table ends words readies same later
entered_as after table ends words readies now later same is was = record {
  count = was.count;
  ready = λ k l all. let (member, fresh) = was.ready k l all in (is (get_or after k 0) ∙ member, fresh);
  waiting = λ k l undone. is (get_or after k 0) ∙ was.waiting k l undone;
  others = λ j apart. let (member, still) = was.others j apart in (is j ∙ member, still);
}

-- the first words are copied, and the others had the same members
pub members_copied : (old words new : List ℕ) (count : ℕ) → length words ≡ 4 → length new ≡ 4 → ((k : ℕ) → k < count → get_or words k 0 ≡ get_or new k 0) → ((k : ℕ) → count ≤ k → get_or words k 0 ≡ get_or old k 0) → ((j : ℕ) → 64 * count ≤ j → j < 256 → has old j ≡ has new j) → (j : ℕ) → has words j ≡ has new j
unfolding has
members_copied old words new count fit fits copied kept same j =
    let k : ℕ = j / 64 in
    ⊎_elim
    (λ (first : k < count). rw (copied k first) refl)
    (λ (rest : count ≤ k).
    ⊎_elim
    (λ (inside : j < 256). rw (kept k rest) (same j (omega (arith, rest)) inside))
    (λ (past : 256 ≤ j). rw (get_or_past words k 0 (omega (arith, past, fit)), get_or_past new k 0 (omega (arith, past, fits))) refl)
    (cases_lt j 256))
    (cases_lt k count)

-- ---- the nonrenewable resources

-- a stock less its need covers what a mode takes beyond the least exactly if the mode is affordable
pub affordable_by : (p : ProjectData) (placed : List Placed) (j m : ℕ) (slack extra : List ℕ) (answer : Bool) → IsBoard (record { project = p; placed = placed }) → j < size p → m < mode_count p j → is_placed placed j ≡ false → ((r : ℕ) → r < 8 → (get_or slack r 0 + needed_of p placed r) % 4294967296 ≡ stock p r) → ((r : ℕ) → r < 8 → get_or extra r 0 + least p j r ≡ consumption p j m r) → (IsTrue answer ↔ ((r : ℕ) → r < 8 → (get_or slack r 0 + (4294967296 - get_or extra r 0)) % 4294967296 < 2147483648)) → answer ≡ is_affordable p placed j m
affordable_by p placed j m slack extra answer board inside known new slacks own told =
    let needs : List ℕ = map (needed_of p placed) (range_with_len 0 8) in
    let stocks : List ℕ = map (stock p) (range_with_len 0 8) in
    let need : (r : ℕ) → r < 8 → get_or needs r 0 ≡ needed_of p placed r = λ r l. get_or-map-range_with_len (needed_of p placed) 0 8 r r 0 l (omega arith) in
    let there : (r : ℕ) → r < 8 → get_or stocks r 0 ≡ stock p r = λ r l. get_or-map-range_with_len (stock p) 0 8 r r 0 l (omega arith) in
    let small : (r : ℕ) → r < 8 → get_or needs r 0 ≤ 1000000000 = amounts_small p placed needs board need in
    affordable_unplaced p placed j m needs extra stocks answer board inside known new need own there (
      λ yes r l. omega (arith, told.0 yes r l, slacks r l, need r l, there r l, small r l, own r l, consumption_small p j m r board.project inside known, stock_small p r board.project),
      λ all. told.1 (λ r l. omega (arith, all r l, slacks r l, need r l, there r l, small r l, own r l, consumption_small p j m r board.project inside known, stock_small p r board.project)),
    )

-- ---- the stages

-- what lies behind the list of a stage does not matter
stage_kept : (p : ProjectData) (placed : List Placed) (running later : List Running) (s : Stage) (base : ℕ) → IsStage p placed running s → s.end ≤ base → take base running ≡ take base later → IsStage p placed later s
stage_kept p placed running later s base was within same = record {
  slack = was.slack;
  beyond = was.beyond;
  front = subst (λ (xs : List Running). IsFrontOf p placed (last_start placed) s.free xs) (range_kept running later s.begin s.end base was.order within same) was.front;
  order = was.order;
  few = was.few;
  within = was.within;
  eligible = was.eligible;
  others = was.others;
  last = was.last;
}

-- the new stage has nothing of a resource or an activity that is not there
pub blank_push : (p : ProjectData) (a : Placed) (table afters : List (List ℕ)) (old later : List Running) (s new : Stage) (less ends readies soon : List ℕ) (row : Row) (finish : ℕ) → IsProject p → IsInside p a → HasAfter p (size p) afters → IsLine p a.activity a.mode row → IsNone (nonrenewables p) s.slack → ((j : ℕ) → size p ≤ j → j < 256 → has s.eligible j ≡ false) → ((j : ℕ) → (j ≡ a.activity → ⊥) → has less j ≡ has s.eligible j) → HasEntered (get_or afters a.activity []) table ends less readies new.eligible soon → ((r : ℕ) → r < 8 → get_or new.slack r 0 ≡ (get_or s.slack r 0 + (4294967296 - get_or row.extra r 0)) % 4294967296) → ((r : ℕ) → renewables p ≤ r → r < 8 → left_at s.free old r a.start ≡ 0) → ((r t : ℕ) → r < 8 → a.start ≤ t → left_at new.free later r t + cond (nat_lt t finish) (get_or row.request r 0) 0 ≡ left_at s.free old r t) → IsBlank p new
blank_push p a table afters old later s new less ends readies soon row finish project inside after own beyond others kept entered slack nothing left = record {
  slack = λ r past l. omega (arith, slack r l, beyond r past l, extra_none p a.activity a.mode (nonrenewables p) row project inside.activity inside.mode own (omega arith) r past l);
  free = λ r past l. omega (arith, left r a.start l (omega arith), nothing r past l);
  words = λ j past below.
      let apart : list_any (λ s. s == j) (get_or afters a.activity []) ≡ false = unlisted (size p) (get_or afters a.activity []) j (after.each a.activity inside.activity).others.inside past in
      (entered.others j apart).0 ∙ kept j (λ e. omega (arith, e, inside.activity, past)) ∙ others j past below;
}

pub blank_as : (p : ProjectData) (made new : Stage) → new.slack ≡ made.slack → new.free ≡ made.free → ((j : ℕ) → has new.eligible j ≡ has made.eligible j) → IsBlank p made → IsBlank p new
blank_as p made new slack free members was = record {
  slack = rw slack was.slack;
  free = rw free was.free;
  words = λ j past below. members j ∙ was.words j past below;
}

pub stages_push : (p : ProjectData) (placed : List Placed) (a : Placed) (running later : List Running) (stages : List Stage) (new : Stage) → length placed < size p → AreStages p placed running stages → length later ≡ length running → take (get_or stages (length placed) no_stage).end running ≡ take (get_or stages (length placed) no_stage).end later → (get_or stages (length placed) no_stage).end ≤ new.end → IsStage p (placed ++ a ∷ []) later new → IsBlank p new → AreNone (renewables p) later → AreStages p (placed ++ a ∷ []) later (set stages (length placed + 1) new)
stages_push p placed a running later stages new room was long same above here blank none =
    let n : ℕ = length placed in
    let many : length (placed ++ a ∷ []) ≡ n + 1 = length_push placed a in
    let base : ℕ = (get_or stages n no_stage).end in
    let own : get_or (set stages (n + 1) new) (n + 1) no_stage ≡ new = get_or-set_same stages (n + 1) new no_stage (omega (arith, was.count)) in
    let old : (i : ℕ) → i ≤ n → get_or (set stages (n + 1) new) i no_stage ≡ get_or stages i no_stage = λ i l. get_or-set_other stages (n + 1) i new no_stage (omega arith) in
    record {
      count = length-set stages (n + 1) new ∙ was.count;
      room = long ∙ was.room;
      none = none;
      each = λ i l.
          ⊎_elim
          (λ (before : i < n + 1).
          let within : i ≤ n = omega (arith, before) in
          rw (old i within, take-append-le i placed (a ∷ []) within) (stage_kept p (take i placed) running later (get_or stages i no_stage) base (was.each i within) (was.apart i n within (omega arith)) same))
          (λ (over : n + 1 ≤ i).
          let last : i ≡ n + 1 = omega (arith, over, l, many) in
          rw (last, own, take_all (n + 1) (placed ++ a ∷ []) (omega (arith, many))) here)
          (cases_lt i (n + 1));
      apart = λ i k l inside.
          ⊎_elim
          (λ (before : k < n + 1). rw (old i (omega (arith, l, before)), old k (omega (arith, before))) (was.apart i k l (omega (arith, before))))
          (λ (over : n + 1 ≤ k).
          let last : k ≡ n + 1 = omega (arith, over, inside, many) in
          ⊎_elim
          (λ (before : i < n + 1). rw (last, own, old i (omega (arith, before))) (omega (arith, above, was.apart i n (omega (arith, before)) (omega arith))))
          (λ (too : n + 1 ≤ i). let same_one : i ≡ n + 1 = omega (arith, too, l, last) in rw (last, same_one) (omega arith))
          (cases_lt i (n + 1)))
          (cases_lt k (n + 1));
      blank = λ i l.
          ⊎_elim
          (λ (e : i ≡ n + 1). rw (e, own) blank)
          (λ (ne : i ≡ n + 1 → ⊥). rw (get_or-set_other stages (n + 1) i new no_stage ne) (was.blank i (omega (arith, l, length-set stages (n + 1) new))))
          (cases_eq i (n + 1));
    }

pub stages_pop : (p : ProjectData) (placed : List Placed) (a : Placed) (running : List Running) (stages : List Stage) → AreStages p (placed ++ a ∷ []) running stages → AreStages p placed running stages
stages_pop p placed a running stages was = record {
  count = was.count;
  room = was.room;
  each = λ i l. rw (take-append-le i placed (a ∷ []) l) at (was.each i (omega (arith, length_push placed a)));
  apart = λ i k l inside. was.apart i k l (omega (arith, length_push placed a));
  blank = was.blank;
  none = was.none;
}

-- ---- the whole path

never_push : (p : ProjectData) (placed : List Placed) (a : Placed) (ends : List ℕ) (finish : ℕ) → ((i : ℕ) → i < size p → is_placed placed i ≡ false → get_or ends i 0 ≡ 4294967295) → (i : ℕ) → i < size p → is_placed (placed ++ a ∷ []) i ≡ false → get_or (set ends a.activity finish) i 0 ≡ 4294967295
never_push p placed a ends finish never i l missing =
    let ne : i ≡ a.activity → ⊥ = λ e. both_ways (is_placed (placed ++ a ∷ []) i) missing (is_placed_push placed a i ∙ or_right (is_placed placed i) (a.activity == i) (eq-eqb a.activity i (sym e))) in
    let before : is_placed placed i ≡ false = ⊎_elim (λ (e : is_placed placed i ≡ true). absurd (both_ways (is_placed (placed ++ a ∷ []) i) missing (is_placed_push placed a i ∙ or_left (is_placed placed i) (a.activity == i) e))) (λ e. e) (cases_Bool (is_placed placed i)) in
    get_or-set_other ends a.activity i finish 0 ne ∙ never i l before

never_pop : (p : ProjectData) (placed : List Placed) (a : Placed) (ends : List ℕ) → a.activity < length ends → ((i : ℕ) → i < size p → is_placed (placed ++ a ∷ []) i ≡ false → get_or ends i 0 ≡ 4294967295) → (i : ℕ) → i < size p → is_placed placed i ≡ false → get_or (set ends a.activity 4294967295) i 0 ≡ 4294967295
never_pop p placed a ends inside never i l missing =
    ⊎_elim
    (λ (e : i ≡ a.activity). rw e (get_or-set_same ends a.activity 4294967295 0 inside))
    (λ (ne : i ≡ a.activity → ⊥).
    let other : is_placed (placed ++ a ∷ []) i ≡ false =
    ⊎_elim
    (λ (e : is_placed (placed ++ a ∷ []) i ≡ true).
    ⊎_elim
    (λ (before : is_placed placed i ≡ true). absurd (both_ways (is_placed placed i) missing before))
    (λ (own : (a.activity == i) ≡ true). absurd (ne (sym (eqb-true a.activity i own))))
    (or_cases (is_placed placed i) (a.activity == i) (sym (is_placed_push placed a i) ∙ e)))
    (λ e. e)
    (cases_Bool (is_placed (placed ++ a ∷ []) i)) in
    get_or-set_other ends a.activity i 4294967295 0 ne ∙ never i l other)
    (cases_eq i a.activity)

noted_beside : (p : ProjectData) (placed : List Placed) (x v : ℕ) (ends : List ℕ) → is_placed placed x ≡ false → AreNoted p placed ends → AreNoted p placed (set ends x v)
noted_beside p placed x v ends missing noted k d l =
    let b = get_or placed k d in
    let ne : b.activity ≡ x → ⊥ = λ e. both_ways (is_placed placed x) missing (ap (is_placed placed) (sym e) ∙ each_is_placed placed k d l) in
    get_or-set_other ends x b.activity v 0 ne ∙ noted k d l

-- a stage with one more
stage_push : (p : ProjectData) (placed : List Placed) (a : Placed) (running later : List Running) (s new : Stage) (row : Row) (finish : ℕ) → IsBoard (record { project = p; placed = placed }) → IsBoard (record { project = p; placed = placed ++ a ∷ [] }) → IsInside p a → last_start placed ≤ a.start → finish ≡ finish_of p a → IsLine p a.activity a.mode row → IsStage p placed running s → Entered p placed a new.eligible → ((r : ℕ) → r < 8 → get_or new.slack r 0 ≡ (get_or s.slack r 0 + (4294967296 - get_or row.extra r 0)) % 4294967296) → new.begin ≡ s.end → s.end ≤ new.end → new.end + s.begin ≤ s.end + s.end + 1 → new.from ≡ a.start → IsRising (slice_range later s.end new.end) → ((r t : ℕ) → r < 8 → a.start ≤ t → left_at new.free (slice_range later s.end new.end) r t + cond (nat_lt t finish) (get_or row.request r 0) 0 ≡ left_at s.free (slice_range (take s.end running) s.begin s.end) r t) → IsStage p (placed ++ a ∷ []) later new
stage_push p placed a running later s new row finish was_board board inside above ends own was entered slack begins behind few starts rising kept =
    let many : length (placed ++ a ∷ []) ≡ length placed + 1 = length_push placed a in
    let last : last_start (placed ++ a ∷ []) ≡ a.start = last_start_push placed a in
    let same : slice_range (take s.end running) s.begin s.end ≡ slice_range running s.begin s.end = range_before running s.begin s.end s.end was.order (omega arith) in
    let runs : Running = record { request = row.request; finish = finish } in
    record {
      slack = λ r l. omega (arith, slack r l, was.slack r l, needed_push p placed a r was_board board, own.extra r l, consumption_small p a.activity a.mode r board.project inside.activity inside.mode);
      beyond = λ r past l. omega (arith, slack r l, was.beyond r past l, extra_none p a.activity a.mode (nonrenewables p) row board.project inside.activity inside.mode own (omega arith) r past l);
      front = rw (last, begins) (front_push p placed a (last_start placed) s.free new.free (slice_range running s.begin s.end) (slice_range later s.end new.end) runs was.front own.request above ends rising (λ r t l late. kept r t l late ∙ ap (λ (xs : List Running). left_at s.free xs r t) same));
      order = omega (arith, begins, behind);
      few = omega (arith, begins, behind, few, was.few, was.order, many);
      within = omega (arith, few, was.few, was.order, was.within, ap triangle many, triangle_next (length placed));
      eligible = entered.eligible;
      others = entered.others;
      last = starts ∙ sym last;
    }

pub stage_here : (p : ProjectData) (placed : List Placed) (running : List Running) (stages : List Stage) → AreStages p placed running stages → IsStage p placed running (get_or stages (length placed) no_stage)
stage_here p placed running stages was = rw (take_all (length placed) placed (omega arith)) at (was.each (length placed) (omega arith))

-- what the steps of a placement are, and what they leave
pub record IsPlacing (p : ProjectData) (a : Placed) (afters table : List (List ℕ)) (running later : List Running) (s new : Stage) (less ends readies soon : List ℕ) (row : Row) (finish : ℕ) : Type 0 where
  pub ends_at : finish ≡ finish_of p a
  pub own : IsLine p a.activity a.mode row
  pub gone : has less a.activity ≡ false
  pub kept : (j : ℕ) → (j ≡ a.activity → ⊥) → has less j ≡ has s.eligible j
  pub entered : HasEntered (get_or afters a.activity []) table (set ends a.activity finish) less readies new.eligible soon
  pub slack : (r : ℕ) → r < 8 → get_or new.slack r 0 ≡ (get_or s.slack r 0 + (4294967296 - get_or row.extra r 0)) % 4294967296
  pub long : length later ≡ length running
  pub same : take s.end later ≡ take s.end running
  pub begins : new.begin ≡ s.end
  pub behind : s.end ≤ new.end
  pub few : new.end + s.begin ≤ s.end + s.end + 1
  pub starts : new.from ≡ a.start
  pub rising : IsRising (slice_range later s.end new.end)
  pub left : (r t : ℕ) → r < 8 → a.start ≤ t → left_at new.free (slice_range later s.end new.end) r t + cond (nat_lt t finish) (get_or row.request r 0) 0 ≡ left_at s.free (slice_range (take s.end running) s.begin s.end) r t
  pub blank : IsBlank p new
  pub none : AreNone (renewables p) later

pub path_push : (p : ProjectData) (placed : List Placed) (a : Placed) (reserved : ℕ) (lines : Table) (table afters : List (List ℕ)) (stages : List Stage) (running later : List Running) (new : Stage) (less ends readies soon : List ℕ) (row : Row) (finish : ℕ) → IsPath p placed reserved lines table afters stages running ends readies → IsInside p a → is_eligible p placed a.activity ≡ true → is_allowed p placed a.activity a.mode a.start ≡ true → last_start placed ≤ a.start → length placed < size p → IsPlacing p a afters table running later (get_or stages (length placed) no_stage) new less ends readies soon row finish → IsPath p (placed ++ a ∷ []) reserved lines table afters (set stages (length placed + 1) new) later (set ends a.activity finish) soon
path_push p placed a reserved lines table afters stages running later new less ends readies soon row finish was inside may fits above room steps =
    let whole : List Placed = placed ++ a ∷ [] in
    let s : Stage = get_or stages (length placed) no_stage in
    let new_one : is_placed placed a.activity ≡ false = eligible-unplaced p placed a.activity may in
    let board : IsBoard (record { project = p; placed = whole }) = board_push p placed a was.board inside new_one fits in
    let noted : AreNoted p whole (set ends a.activity finish) = noted_push p placed a ends finish was.noted inside.activity new_one steps.ends_at was.finishes in
    let never : (i : ℕ) → i < size p → is_placed whole i ≡ false → get_or (set ends a.activity finish) i 0 ≡ 4294967295 = never_push p placed a ends finish was.never in
    let here : IsStage p placed running s = stage_here p placed running stages was.staged in
    let entered : Entered p placed a new.eligible = entered_now p placed a table afters (set ends a.activity finish) s.eligible less new.eligible readies soon board was.entered inside.activity new_one was.before was.after noted never here.eligible here.others steps.gone steps.kept steps.entered in
    let missing : List ℕ = map (missing_of p whole) (range_with_len 0 (size p)) in
    let missed : (j : ℕ) → j < size p → get_or missing j 0 ≡ missing_of p whole j = λ j l. get_or-map-range_with_len (missing_of p whole) 0 (size p) j j 0 l (omega arith) in
    let mine = was.after.each a.activity inside.activity in
    let renewed : AreRenewed (get_or afters a.activity []) missing (set ends a.activity finish) table readies soon = record {
      count = steps.entered.count;
      own = λ k l none.
          let j : ℕ = get_or (get_or afters a.activity []) k 0 in
          let known : j < size p = mine.others.inside k 0 l in
          let nobody : missing_of p whole j ≡ 0 = sym (missed j known) ∙ none in
          (steps.entered.ready k l (placed_done p whole j (get_or table j []) (set ends a.activity finish) board (was.before.each j known) noted (λ i among first. there_all p whole i j nobody among first))).1;
      rest = λ j apart. (steps.entered.others j apart).1;
    } in
    record {
      board = board;
      memory = was.memory;
      tabled = was.tabled;
      before = was.before;
      after = was.after;
      noted = length-set ends a.activity finish ∙ was.noted;
      finishes = noted;
      never = never;
      readied = readied_push p placed a missing (set ends a.activity finish) readies soon table afters board inside.activity new_one missed noted was.before was.after renewed was.readied;
      entered = entered_push p placed a was.entered may;
      staged = stages_push p placed a running later stages new room was.staged steps.long (sym steps.same) steps.behind (stage_push p placed a running later s new row finish was.board board inside above steps.ends_at steps.own here entered steps.slack steps.begins steps.behind steps.few steps.starts steps.rising steps.left) steps.blank steps.none;
    }

pub path_pop : (p : ProjectData) (placed rest : List Placed) (a : Placed) (reserved memory : ℕ) (lines : Table) (table afters : List (List ℕ)) (stages : List Stage) (running : List Running) (ends readies : List ℕ) → placed ≡ rest ++ a ∷ [] → memory ≡ reserved → IsPath p placed reserved lines table afters stages running ends readies → IsPath p rest memory lines table afters stages running (set ends a.activity 4294967295) readies
path_pop p placed rest a reserved memory lines table afters stages running ends readies e same path =
    let was : IsPath p (rest ++ a ∷ []) reserved lines table afters stages running ends readies = subst (λ (xs : List Placed). IsPath p xs reserved lines table afters stages running ends readies) e path in
    let inside : IsInside p a = subst (λ (x : Placed). IsInside p x) (get_or_push rest a a (length rest) refl) (was.board.inside (length rest) a (omega (arith, length_push rest a))) in
    let alone : is_placed rest a.activity ≡ false = alone_at_end rest a was.board.distinct in
    record {
      board = board_pop p rest a was.board;
      memory = same ∙ was.memory;
      tabled = was.tabled;
      before = was.before;
      after = was.after;
      noted = length-set ends a.activity 4294967295 ∙ was.noted;
      finishes = noted_beside p rest a.activity 4294967295 ends alone (noted_pop p rest a ends was.finishes);
      never = never_pop p rest a ends (omega (arith, was.noted, inside.activity)) was.never;
      readied = readied_pop p rest a readies inside.activity alone was.readied;
      entered = entered_pop p rest a was.entered;
      staged = stages_pop p rest a running stages was.staged;
    }

-- the activity that is taken back is one of the project's
pub path_last : (p : ProjectData) (placed rest : List Placed) (a : Placed) (reserved : ℕ) (lines : Table) (table afters : List (List ℕ)) (stages : List Stage) (running : List Running) (ends readies : List ℕ) → placed ≡ rest ++ a ∷ [] → IsPath p placed reserved lines table afters stages running ends readies → a.activity < length ends
path_last p placed rest a reserved lines table afters stages running ends readies e was =
    let inside = was.board.inside (length rest) a (omega (arith, ap (λ (xs : List Placed). length xs) e, length_push rest a)) in
    let mine : IsInside p a = subst (λ (x : Placed). IsInside p x) (ap (λ (xs : List Placed). get_or xs (length rest) a) e ∙ get_or_push rest a a (length rest) refl) inside in
    omega (arith, mine.activity, was.noted)

-- the next member of a stage is the next eligible activity
pub next_is : (p : ProjectData) (placed : List Placed) (words : List ℕ) (from : ℕ) (found : Option ℕ) → ((j : ℕ) → j < size p → has words j ≡ is_eligible p placed j) → ((j : ℕ) → size p ≤ j → j < 256 → has words j ≡ false) → MatchOption found (IsOver words from (size p)) (IsNext words from) → MatchOption found (NoneEligible p placed from) (IsNextEligible p placed from)
next_is p placed words from None own others none = λ i l inside. sym (own i inside) ∙ none i l inside
next_is p placed words from (Some j) own others next =
    let inside : j < size p =
    ⊎_elim
    (λ (l : j < size p). l)
    (λ (past : size p ≤ j). absurd (both_ways (has words j) (others j past next.below) next.member))
    (cases_lt j (size p)) in
    record {
      above = next.above;
      inside = inside;
      eligible = sym (own j inside) ∙ next.member;
      first = λ i l h. sym (own i (omega (arith, h, inside))) ∙ next.first i l h;
    }

-- nothing is placed
pub path_first : (p : ProjectData) (reserved : ℕ) (lines : Table) (table afters : List (List ℕ)) (words : List ℕ) (stage : Stage) (stages : List Stage) (running : List Running) (ends readies : List ℕ) → IsProject p → reserved ≡ size p → IsLines p lines → HasBefore p (size p) table → HasAfter p (size p) afters → length ends ≡ size p → ((j : ℕ) → j < size p → get_or ends j 0 ≡ 4294967295) → AreReadied p [] readies → length stages ≡ size p + 1 → length running ≡ triangle (size p) → AreNone (renewables p) running → ((i : ℕ) → i < length stages → get_or stages i no_stage ≡ stage) → IsFirstStage p words stage → ((j : ℕ) → j < size p → has words j ≡ (length (get_or table j []) == 0)) → ((j : ℕ) → size p ≤ j → j < 256 → has words j ≡ false) → IsPath p [] reserved lines table afters stages running ends readies
path_first p reserved lines table afters words stage stages running ends readies project memory tabled before after long never readied count room none first start members others = record {
  board = board_empty p project;
  memory = memory;
  tabled = tabled;
  before = before;
  after = after;
  noted = long;
  finishes = All-nil _;
  never = λ j l _. never j l;
  readied = readied;
  entered = λ k d l. absurd (omega arith);
  staged = record {
    count = count;
    room = room;
    none = none;
    each = λ i l. let none : i ≡ 0 = omega arith in rw (none, first 0 (omega (arith, count))) here;
    apart = λ i k l inside. let none : k ≡ 0 = omega arith in let too : i ≡ 0 = omega (arith, l, none) in rw (none, too) (omega arith);
    blank = λ i l. rw (first i l) (record {
      slack = start.beyond;
      free = λ r past among. omega (arith, start.free r among, capacity_past p r past);
      words = λ j past below. ap (λ (xs : List ℕ). has xs j) start.eligible ∙ others j past below;
    });
  };
}
  where
    open_first : (j : ℕ) → j < size p → (length (get_or table j []) == 0) ≡ is_eligible p [] j
    open_first j l =
        let names : IsBefore p j (size p) (get_or table j []) = before.each j l in
        ⊎_elim
        (λ (none : length (get_or table j []) ≡ 0).
        eq-eqb (length (get_or table j [])) 0 none
        ∙ sym (eligible-from p [] j refl (λ i inside first. let (k, within, _) = names.all i inside first in absurd (omega (arith, within, none)))))
        (λ (some : length (get_or table j []) ≡ 0 → ⊥).
        let name = names.each 0 (omega arith) in
        ne_eqb (length (get_or table j [])) 0 some ∙ sym (ineligible_after p [] (get_or (get_or table j []) 0 0) j name.0 name.1 refl))
        (cases_eq (length (get_or table j [])) 0)

    here : IsStage p [] running stage
    here = record {
      slack = start.slack;
      beyond = start.beyond;
      front = subst (λ (xs : List Running). IsFrontOf p [] (last_start []) stage.free xs) (sym (empty_range running stage.begin stage.end start.begin start.end)) (rw last_start_none (front_first p stage.free start.free));
      order = omega (arith, start.begin);
      few = omega (arith, start.end);
      within = omega (arith, start.end);
      eligible = λ j l. ap (λ (xs : List ℕ). has xs j) start.eligible ∙ members j l ∙ open_first j l;
      others = λ j past below. ap (λ (xs : List ℕ). has xs j) start.eligible ∙ others j past below;
      last = start.from ∙ sym last_start_none;
    }

-- what nothing is of is nothing of less
pub none_more : (kinds lanes : ℕ) (running : List Running) → kinds ≤ lanes → AreNone kinds running → AreNone lanes running
none_more kinds lanes running enough all k d l r past among = all k d l r (omega (arith, past, enough)) among

-- there is a place for the list of one more, and its request is left
pub record HasPlace (p : ProjectData) (a : Placed) (running : List Running) (s : Stage) (row : Row) (finish : ℕ) : Type 0 where
  pub order : s.begin ≤ s.end
  pub memory : s.end + s.end + 1 ≤ length running + s.begin
  pub rising : IsRising (slice_range (take s.end running) s.begin s.end)
  pub few : (r t : ℕ) → r < 8 → left_at s.free (slice_range (take s.end running) s.begin s.end) r t ≤ 2000000000
  pub beyond : (lanes : ℕ) → renewables p ≤ lanes → (r t : ℕ) → lanes ≤ r → r < 8 → left_at s.free (slice_range (take s.end running) s.begin s.end) r t ≡ 0
  pub room : a.start < finish → (r : ℕ) → r < 8 → get_or row.request r 0 ≤ left_at s.free (slice_range (take s.end running) s.begin s.end) r a.start

pub has_place : (p : ProjectData) (placed : List Placed) (a : Placed) (running : List Running) (stages : List Stage) (row : Row) (finish : ℕ) → IsBoard (record { project = p; placed = placed }) → AreStages p placed running stages → length placed < size p → IsInside p a → IsLine p a.activity a.mode row → finish ≡ finish_of p a → last_start placed ≤ a.start → is_allowed p placed a.activity a.mode a.start ≡ true → HasPlace p a running (get_or stages (length placed) no_stage) row finish
has_place p placed a running stages row finish board was more inside own ends above fits =
    let s : Stage = get_or stages (length placed) no_stage in
    let here : IsStage p placed running s = stage_here p placed running stages was in
    let same : slice_range (take s.end running) s.begin s.end ≡ slice_range running s.begin s.end = range_before running s.begin s.end s.end here.order (omega arith) in
    record {
      order = here.order;
      memory = omega (arith, here.few, here.within, here.order, triangle_next (length placed), triangle_rises (length placed + 1) (size p) (omega (arith, more)), was.room);
      rising = rw same here.front.rising;
      few = rw same (λ r t l. omega (arith, front_most p placed (last_start placed) s.free (slice_range running s.begin s.end) here.front r t l, capacity_small p r board.project));
      beyond = rw same (λ lanes enough. left_none p placed (last_start placed) lanes s.free (slice_range running s.begin s.end) here.front enough);
      room = rw same (λ _ r l. front_enough p placed a.activity a.mode (last_start placed) s.free (slice_range running s.begin s.end) row.request board.project inside.activity inside.mode here.front own.request a.start above fits r l);
    }

zero_at : (w : ℕ) → get_or {A = ℕ} (0 ∷ 0 ∷ 0 ∷ 0 ∷ []) w 0 ≡ 0
zero_at zero = refl
zero_at (suc zero) = refl
zero_at (suc (suc zero)) = refl
zero_at (suc (suc (suc zero))) = refl
zero_at (suc (suc (suc (suc w)))) = refl

-- an empty set has no members
pub empty_set : (j : ℕ) → has (0 ∷ 0 ∷ 0 ∷ 0 ∷ []) j ≡ false
unfolding has
empty_set j = rw (zero_at (j / 64), bit_at-zero (j % 64)) refl

-- ---- a mode of which the slack decides

pub covered_allowed : (p : ProjectData) (placed : List Placed) (j m : ℕ) (slack : List ℕ) (row : Row) (limit : ℕ) → IsBoard (record { project = p; placed = placed }) → j < size p → m < mode_count p j → is_placed placed j ≡ false → ((r : ℕ) → r < 8 → (get_or slack r 0 + needed_of p placed r) % 4294967296 ≡ stock p r) → IsLine p j m row → limit ≤ 4294967295 → row.reach < limit → IsCovered row.extra slack → is_allowed_mode p placed j m ≡ true
unfolding is_allowed_mode
covered_allowed p placed j m slack row limit board inside known new slacks own most short covered =
    let can : is_executable p j m ≡ true = ⊎_elim (λ (e : is_executable p j m ≡ true). e) (λ (e : is_executable p j m ≡ false). absurd (omega (arith, own.never e))) (cases_Bool (is_executable p j m)) in
    let enough : true ≡ is_affordable p placed j m = affordable_by p placed j m slack row.extra true board inside known new slacks own.extra (λ _. covered, λ _. refl) in
    rw (can, sym enough) refl

pub hopeless_by : (p : ProjectData) (placed : List Placed) (j m : ℕ) (slack : List ℕ) (row : Row) (limit : ℕ) → IsBoard (record { project = p; placed = placed }) → j < size p → m < mode_count p j → is_placed placed j ≡ false → ((r : ℕ) → r < 8 → (get_or slack r 0 + needed_of p placed r) % 4294967296 ≡ stock p r) → IsLine p j m row → (row.reach < limit → IsCovered row.extra slack → ⊥) → IsHopeless p placed j m limit
unfolding is_allowed_mode
hopeless_by p placed j m slack row limit board inside known new slacks own refused allowed =
    let parts = and_parts (is_executable p j m) (is_affordable p placed j m) allowed in
    ⊎_elim
    (λ (short : row.reach < limit).
    let never : false ≡ is_affordable p placed j m = affordable_by p placed j m slack row.extra false board inside known new slacks own.extra (λ e. absurd (both_ways false refl e), λ all. absurd (refused short all)) in
    absurd (both_ways (is_affordable p placed j m) (sym never) parts.1))
    (λ (long : limit ≤ row.reach). omega (arith, own.reach parts.0, long))
    (cases_lt row.reach limit)

-- as they are read from a list
pub covered_at : (p : ProjectData) (placed : List Placed) (j m : ℕ) (slack : List ℕ) (rows : List Row) (k : ℕ) (d : Row) (limit : ℕ) → IsBoard (record { project = p; placed = placed }) → j < size p → m < mode_count p j → is_placed placed j ≡ false → ((r : ℕ) → r < 8 → (get_or slack r 0 + needed_of p placed r) % 4294967296 ≡ stock p r) → k < length rows → IsLine p j m (get_or rows k no_row) → limit ≤ 4294967295 → (get_or rows k d).reach < limit → IsCovered (get_or rows k d).extra slack → is_allowed_mode p placed j m ≡ true
covered_at p placed j m slack rows k d limit board inside known new slacks among own most short covered =
    covered_allowed p placed j m slack (get_or rows k d) limit board inside known new slacks (rw (get_or_default rows k d no_row among) own) most short covered

pub hopeless_at : (p : ProjectData) (placed : List Placed) (j m : ℕ) (slack : List ℕ) (rows : List Row) (k : ℕ) (d : Row) (limit : ℕ) → IsBoard (record { project = p; placed = placed }) → j < size p → m < mode_count p j → is_placed placed j ≡ false → ((r : ℕ) → r < 8 → (get_or slack r 0 + needed_of p placed r) % 4294967296 ≡ stock p r) → k < length rows → IsLine p j m (get_or rows k no_row) → ((get_or rows k d).reach < limit → IsCovered (get_or rows k d).extra slack → ⊥) → IsHopeless p placed j m limit
hopeless_at p placed j m slack rows k d limit board inside known new slacks among own refused =
    hopeless_by p placed j m slack (get_or rows k d) limit board inside known new slacks (rw (get_or_default rows k d no_row among) own) refused

-- ---- what is taken away

pub taken_last : (p : ProjectData) (placed rest : List Placed) (a : Placed) (reserved : ℕ) (lines : Table) (table afters : List (List ℕ)) (stages : List Stage) (running : List Running) (ends readies : List ℕ) → placed ≡ rest ++ a ∷ [] → IsPath p placed reserved lines table afters stages running ends readies → IsTaken p rest a
taken_last p placed rest a reserved lines table afters stages running ends readies e path =
    let was : IsPath p (rest ++ a ∷ []) reserved lines table afters stages running ends readies = subst (λ (xs : List Placed). IsPath p xs reserved lines table afters stages running ends readies) e path in
    let long : length rest < length (rest ++ a ∷ []) = omega (arith, length_push rest a) in
    let inside : IsInside p a = subst (λ (x : Placed). IsInside p x) (get_or_push rest a a (length rest) refl) (was.board.inside (length rest) a long) in
    let before : take (length rest) (rest ++ a ∷ []) ≡ rest = take-append-le (length rest) rest (a ∷ []) (omega arith) ∙ take_all (length rest) rest (omega arith) in
    record {
      activity = inside.activity;
      mode = inside.mode;
      eligible = rw (before, get_or_push rest a a (length rest) refl) at (was.entered (length rest) a long);
    }

-- no start is late
starts_small : (p : ProjectData) (placed : List Placed) (s : ℕ) → s ≤ 1000000000 → All (IsInside p) placed → fold (λ _ (a : Placed). a.start) s placed ≤ 1000000000
starts_small p [] s small inside = small
starts_small p (a ∷ placed) s small inside = starts_small p placed a.start (All-head (IsInside p) a placed inside).start (All-tail (IsInside p) a placed inside)

pub last_start_small : (p : ProjectData) (placed : List Placed) → IsBoard (record { project = p; placed = placed }) → last_start placed ≤ 1000000000
unfolding last_start
last_start_small p placed board = starts_small p placed 0 (omega arith) board.inside
