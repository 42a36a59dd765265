use Rattle.std.proofs.Common.{rules, ◌≡◌, ◌+◌, ℕ, true, false, [], ◌∷◌, ◌++◌, get_or, length, sym, ap, ◌∙◌, arith, subst}
use Rattle.std.specs.List.Sorted.{IsNonDecreasing, IsPermutation}
use Rattle.std.proofs.lemmas.List.{get_or_default}
use Rattle.std.proofs.lemmas.List.Sorted.{IsNonDecreasingBy-from_sort}
use Rattle.mrcpsp.proofs.StartLemmas.{start_told, start_passed, found_all, is_later, IsFound}
use Rattle.mrcpsp.proofs.breaches.periods_of.Goals.{then-is_first+in_ok-push, else-is_first}
use Rattle.mrcpsp.proofs.breaches.periods_of.Goals as goal

pub loop-at-preserved : goal.loop-at-preserved
loop-at-preserved c =
    let starts = c.args.schedule.now.starts in
    let sorted = c.sort.new.self.items in
    let all : c.in_ok-starts.starts.items ≡ starts = c.in_ok-starts.ensures.items ∙ c.as_slice.ensures ∙ ap (λ s. s.starts) c.schedule.view_is in
    let same : IsPermutation starts sorted = subst (λ l. IsPermutation l sorted) all c.sort.ensures.permutation in
    let rises : IsNonDecreasing sorted = IsNonDecreasingBy-from_sort (λ (x : ℕ). x) sorted c.in_ok-sort.ensures.sorted in
    let at = c.loop-at.at in
    let found = c.loop-at.periods.items in
    let slice : c.deref.result.now ≡ sorted = c.deref.ensures.value in
    elim c.if-is_first.branch [
      | then-is_first+in_ok-push w ↦
          let test : is_later sorted at ≡ true = subst (λ l. is_later l at ≡ true) slice (sym w.if-is_first.ensures) in
          let raw : w.index.result.now ≡ get_or sorted at w.index.result.now = search rules in
          let read : w.index.result.now ≡ get_or sorted at 0 = raw ∙ get_or_default sorted at w.index.result.now 0 (omega arith) in
          let more : c.if-is_first.periods.items ≡ found ++ get_or sorted at 0 ∷ [] = ap (λ v. v.items) w.periods-is ∙ w.in_ok-push.ensures.items ∙ ap (λ t. found ++ t ∷ []) read in
          subst (λ l. IsFound starts sorted (at + 1) l) (sym more) (start_told starts sorted found at same rises (omega arith) test c.loop-at.invariant)
      | else-is_first w ↦
          let test : is_later sorted at ≡ false = subst (λ l. is_later l at ≡ false) slice (sym w.if-is_first.ensures) in
          let less : c.if-is_first.periods.items ≡ found = ap (λ v. v.items) w.periods-is in
          subst (λ l. IsFound starts sorted (at + 1) l) (sym less) (start_passed starts sorted found at rises (omega arith) test c.loop-at.invariant)
    ]

pub returns : goal.returns
returns c =
    let starts = c.args.schedule.now.starts in
    let sorted = c.sort.new.self.items in
    let all : c.in_ok-starts.starts.items ≡ starts = c.in_ok-starts.ensures.items ∙ c.as_slice.ensures ∙ ap (λ s. s.starts) c.schedule.view_is in
    let same : IsPermutation starts sorted = subst (λ l. IsPermutation l sorted) all c.sort.ensures.permutation in
    let rises : IsNonDecreasing sorted = IsNonDecreasingBy-from_sort (λ (x : ℕ). x) sorted c.in_ok-sort.ensures.sorted in
    let end : c.loop-at.at ≡ length sorted = omega (arith, c.len-at-end.ensures) in
    found_all starts sorted c.loop-at.periods.items same rises (subst (λ k. IsFound starts sorted k c.loop-at.periods.items) end c.loop-at.invariant)
