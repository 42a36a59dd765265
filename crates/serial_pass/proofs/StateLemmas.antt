-- Who is eligible in a partial schedule, and how it begins.
use Rattle.std.proofs.Common.{◌≡◌, ℕ, ◌+◌, ◌-◌, ◌<◌, ◌≤◌, ◌==◌, nat_le, Bool, true, false, cond, List, [], ◌∷◌, ◌++◌, length, map, get_or, arith, refl, sym, ap, ◌∙◌, subst, ⊎_elim, None, Some}
use Rattle.std.proofs.lemmas.Bool.{both_ways, cases_eq, eq-eqb, le-leb, ne_eqb}
use Rattle.std.proofs.lemmas.List.{append-nil}
use Rattle.std.proofs.lemmas.List.FromFn.{length-map-range_with_len}
use Rattle.std.specs.Prelude.{sum_by}
use Rattle.mrcpsp.specs.Numbers.{largest}
use Rattle.mrcpsp.specs.Project.{ProjectData, size}
use Rattle.mrcpsp.specs.Values.{lft}
use Rattle.mrcpsp.specs.Placed.{Placed, are_ready, is_eligible}
use Rattle.mrcpsp.proofs.EarliestLemmas.{eligible-from}
use Rattle.measures.specs.Measures.{ValuesData, measures_of, values_of}
use Rattle.serial_sgs.specs.Members.{has}
use Rattle.serial_sgs.specs.Order.{HasBefore, IsBefore}
use Rattle.serial_sgs.proofs.BoardLemmas.{ineligible_after}
use Rattle.strategy.specs.Candidate.{eligible_ones}
use Rattle.serial_pass.specs.declared.eligible.Eligible.{Eligible}
use Rattle.serial_pass.specs.declared.state.PassState.{PassState}
use Rattle.serial_pass.specs.Eligible.{HasSums, from_word, members, picked}
use Rattle.serial_pass.specs.Partial.{IsState}
use Rattle.serial_pass.specs.Pass.{eligible_in}
use Rattle.serial_pass.specs.declared.points.FreePoint.{FreePoint}
use Rattle.serial_pass.specs.declared.waiting.Wait.{Wait}
use Rattle.serial_pass.specs.Points.{IsLinked}
use Rattle.serial_pass.specs.Waiting.{AreEligible, AreWaiting, IsWait, no_wait}
use Rattle.serial_pass.proofs.SetLemmas.{picked_append, picked_none, picked_same}

members_are : (p : ProjectData) (placed : List Placed) (words : List ℕ) → size p ≤ 256 → AreEligible p placed words → members words ≡ picked (is_eligible p placed) 0 (size p)
unfolding from_word
members_are p placed words few are =
    let n : ℕ = size p in
    let wide : 256 ≡ n + (256 - n) = omega (arith, few) in
    let begins : 0 + n ≡ n = omega arith in
    ap (picked (has words) 0) wide ∙ picked_append (has words) 0 n (256 - n)
    ∙ ap (λ xs. xs ++ picked (has words) (0 + n) (256 - n)) (picked_same (has words) (is_eligible p placed) 0 n (λ j _ l. are.own j (omega arith)))
    ∙ ap (λ xs. picked (is_eligible p placed) 0 n ++ xs) (picked_none (has words) (0 + n) (256 - n) (λ j l m. are.others j (omega arith) (omega (arith, few))))
    ∙ append-nil (picked (is_eligible p placed) 0 n)

listed_are : (p : ProjectData) (placed : List Placed) → picked (is_eligible p placed) 0 (size p) ≡ eligible_ones p placed
unfolding eligible_ones picked
listed_are p placed = refl

empty_list : (xs : List ℕ) → length xs ≡ 0 → xs ≡ []
empty_list [] l = refl
empty_list (x ∷ xs) l = absurd (omega (arith, l))

-- the members are who may come next; nobody in a void pass
pub eligible_are : (p : ProjectData) (placed : List Placed) (void : Bool) (s : PassState) → IsState p placed void s → members s.eligible.set ≡ eligible_in p (cond void None (Some placed))
eligible_are p placed true s state = empty_list (members s.eligible.set) (omega (arith, state.sums.count, state.over refl))
eligible_are p placed false s state = members_are p placed s.eligible.set (omega (arith, state.early.board.project.few)) (state.going refl) ∙ listed_are p placed

no_members : (words : List ℕ) → ((j : ℕ) → j < 256 → has words j ≡ false) → members words ≡ []
unfolding from_word
no_members words none = picked_none (has words) 0 256 (λ j _ l. none j (omega arith))

pub nobody_sums : (p : ProjectData) (e : Eligible) → ((j : ℕ) → j < 256 → has e.set j ≡ false) → e.count ≡ 0 → e.greatest ≡ 0 → e.sum ≡ 0 → HasSums p e
nobody_sums p e none count greatest sum =
    let empty : members e.set ≡ [] = no_members e.set none in
    record {
      inside = λ j l is. absurd (both_ways (has e.set j) (none j l) is);
      count = count ∙ ap length (sym empty);
      sum = sum ∙ ap (sum_by (lft p)) (sym empty);
      greatest = greatest ∙ ap (λ (xs : List ℕ). largest (map (lft p) xs)) (sym empty);
    }

pub length-measures : (p : ProjectData) (values : List ValuesData) → values ≡ measures_of p → length values ≡ size p
length-measures p values are = ap length are ∙ length-map-range_with_len (values_of p) 0 (size p)

-- ---- where nothing is placed

source_is : (p : ProjectData) (table : List (List ℕ)) (j : ℕ) → HasBefore p (size p) table → j < size p → (length (get_or table j []) == 0) ≡ is_eligible p [] j
source_is p table j before l =
    let names : IsBefore p j (size p) (get_or table j []) = before.each j l in
    ⊎_elim
    (λ (none : length (get_or table j []) ≡ 0).
    eq-eqb (length (get_or table j [])) 0 none
    ∙ sym (eligible-from p [] j refl (λ i inside first. let (k, within, _) = names.all i inside first in absurd (omega (arith, within, none)))))
    (λ (some : length (get_or table j []) ≡ 0 → ⊥).
    let name = names.each 0 (omega arith) in
    ne_eqb (length (get_or table j [])) 0 some ∙ sym (ineligible_after p [] (get_or (get_or table j []) 0 0) j name.0 name.1 refl))
    (cases_eq (length (get_or table j [])) 0)

pub sources_are : (p : ProjectData) (table : List (List ℕ)) (words : List ℕ) → HasBefore p (size p) table → ((j : ℕ) → j < length table → has words j ≡ (length (get_or table j []) == 0)) → ((j : ℕ) → length table ≤ j → j < 256 → has words j ≡ false) → AreEligible p [] words
sources_are p table words before own others = record {
  own = λ j l. own j (omega (arith, l, before.count)) ∙ source_is p table j before l;
  others = λ j past below. others j (omega (arith, past, before.count)) below;
}

ready_first : (p : ProjectData) (j t : ℕ) → are_ready p [] j t ≡ nat_le 0 t
unfolding are_ready
ready_first p j t = sym (le-leb 0 t (omega arith))

pub first_are : (p : ProjectData) (table : List (List ℕ)) (waits : List Wait) → HasBefore p (size p) table → length waits ≡ length table → ((j : ℕ) → j < length table → get_or waits j no_wait ≡ record { ready = 0; point = 0; missing = length (get_or table j []) }) → (points : List FreePoint) → IsLinked points → AreWaiting p [] points waits
first_are p table waits before count each points linked = record {
  count = omega (arith, count, before.count);
  each = λ j l. subst (IsWait p [] points j) (sym (each j (omega (arith, l, before.count)))) (record {
    inside = linked.some;
    time = sym linked.begins;
    ready = λ t. ready_first p j t;
    missing = (before.each j l).count;
  });
}
