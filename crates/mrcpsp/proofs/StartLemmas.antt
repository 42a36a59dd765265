-- The periods in which an activity starts, as a loop over sorted starts finds them.
use Rattle.std.proofs.Common.{◌≡◌, ℕ, zero, suc, ◌+◌, ◌-◌, ◌<◌, ◌≤◌, ◌==◌, ◌||◌, nat_lt, Bool, true, false, List, [], ◌∷◌, ◌++◌, length, get_or, filter, arith, refl, ap, sym, ◌∙◌, subst, ⊎_elim}
use Rattle.std.specs.List.{Contains, list_any, range_with_len}
use Rattle.std.specs.List.Sorted.{IsNonDecreasing, IsPermutation}
use Rattle.std.proofs.lemmas.Bool.{cases_eq, cases_lt, cases_Bool, false≢true}
use Rattle.std.proofs.lemmas.Bool.Decides.{nat_tests}
use Rattle.std.proofs.lemmas.List.{get_or_default}
use Rattle.std.proofs.lemmas.List.Sorted.{Contains-permutation, IsPermutation-sym}
use Rattle.mrcpsp.specs.Numbers.{largest}
use Rattle.mrcpsp.specs.Breaches.{passing}
use Rattle.mrcpsp.proofs.PassingLemmas.{range_more, filter_passes, filter_fails}

-- whether t is in a list
abbrev pub is_in : List ℕ → ℕ → Bool
is_in xs t = list_any (λ u. u == t) xs

pub in_to : (xs : List ℕ) (t : ℕ) → is_in xs t ≡ true → Contains xs t
in_to [] t h = absurd (false≢true h)
in_to (x ∷ xs) t h =
    ⊎_elim (λ (e : x ≡ t). (0, omega arith, e))
    (λ (ne : x ≡ t → ⊥).
    let rest : is_in xs t ≡ true = grind (arith, nat_tests) in
    let (k, inside, is) = in_to xs t rest in
    (suc k, omega arith, is))
    (cases_eq x t)

pub in_from : (xs : List ℕ) (t : ℕ) → Contains xs t → is_in xs t ≡ true
in_from [] t (k, inside, is) = absurd (omega arith)
in_from (x ∷ xs) t (zero, inside, is) = grind (arith, nat_tests)
in_from (x ∷ xs) t (suc k, inside, is) =
    let rest : is_in xs t ≡ true = in_from xs t (k, omega arith, is) in
    grind (arith, nat_tests)

not_in : (xs : List ℕ) (t : ℕ) → (Contains xs t → ⊥) → is_in xs t ≡ false
not_in xs t none = ⊎_elim (λ h. absurd (none (in_to xs t h))) (λ e. e) (cases_Bool (is_in xs t))

pub le-largest : (xs : List ℕ) (t : ℕ) → Contains xs t → t ≤ largest xs
le-largest [] t (k, inside, is) = absurd (omega arith)
le-largest (x ∷ xs) t (zero, inside, is) = omega (arith, is)
le-largest (x ∷ xs) t (suc k, inside, is) = omega (arith, le-largest xs t (k, omega arith, is))

-- none of the next numbers passes
further_fails : (test : ℕ → Bool) (n k : ℕ) → ((i : ℕ) → n ≤ i → i < n + k → test i ≡ false) → passing test (n + k) ≡ passing test n
further_fails test n zero fail = let e : n + 0 ≡ n = omega arith in rw e refl
further_fails test n (suc k) fail =
    let e : n + suc k ≡ n + k + 1 = omega arith in
    rw e (ap (filter test) (range_more (n + k)) ∙ filter_fails test (range_with_len 0 (n + k)) (n + k) (fail (n + k) (omega arith) (omega arith)) ∙ further_fails test n k (λ i l h. fail i l (omega arith)))

later_fails : (test : ℕ → Bool) (n later : ℕ) → n ≤ later → ((i : ℕ) → n ≤ i → i < later → test i ≡ false) → passing test later ≡ passing test n
later_fails test n later l fail =
    let e : later ≡ n + (later - n) = omega arith in
    rw e (further_fails test n (later - n) (λ i above h. fail i above (omega arith)))

-- the number behind the last of the first k of a list, 0 if k is 0
abbrev pub behind : List ℕ → ℕ → ℕ
behind sorted zero = 0
behind sorted (suc k) = get_or sorted k 0 + 1

-- the periods up to the last of the first k sorted starts
abbrev pub IsFound : List ℕ → List ℕ → ℕ → List ℕ → Type 0
IsFound starts sorted k found = found ≡ passing (is_in starts) (behind sorted k)

-- between two sorted starts that follow each other is no start
gap : (starts sorted : List ℕ) (k t : ℕ) → IsPermutation starts sorted → IsNonDecreasing sorted → k < length sorted → behind sorted k ≤ t → t < get_or sorted k 0 → is_in starts t ≡ false
gap starts sorted k t same rises inside low high =
    not_in starts t (λ has.
    let (i, within, is) = Contains-permutation starts sorted t same has in
    let at : get_or sorted i 0 ≡ t = get_or_default sorted i 0 t within ∙ is in
    ⊎_elim
    (λ (before : i < k).
    let last : get_or sorted i 0 ≤ get_or sorted (k - 1) 0 = rises i (k - 1) 0 (omega arith) (omega arith) in
    let e : suc (k - 1) ≡ k = omega arith in
    let below : get_or sorted (k - 1) 0 + 1 ≤ t = subst (λ m. behind sorted m ≤ t) (sym e) low in
    absurd (omega arith))
    (λ (after : k ≤ i). absurd (omega (arith, rises k i 0 after within)))
    (cases_lt i k))

-- the next start is later than the one before
pub found_more : (starts sorted found : List ℕ) (k : ℕ) → IsPermutation starts sorted → IsNonDecreasing sorted → k < length sorted → behind sorted k ≤ get_or sorted k 0 → IsFound starts sorted k found → IsFound starts sorted (k + 1) (found ++ get_or sorted k 0 ∷ [])
found_more starts sorted found k same rises inside later is =
    let t = get_or sorted k 0 in
    let has : Contains sorted t = (k, inside, get_or_default sorted k t 0 inside) in
    let pass : is_in starts t ≡ true = in_from starts t (Contains-permutation sorted starts t (IsPermutation-sym starts sorted same) has) in
    let up : passing (is_in starts) t ≡ passing (is_in starts) (behind sorted k) = later_fails (is_in starts) (behind sorted k) t later (λ i low high. gap starts sorted k i same rises inside low high) in
    let e : k + 1 ≡ suc k = omega arith in
    rw e (ap (λ l. l ++ t ∷ []) (is ∙ sym up) ∙ sym (ap (filter (is_in starts)) (range_more t) ∙ filter_passes (is_in starts) (range_with_len 0 t) t pass))

-- the next start is the one before
pub found_same : (starts sorted found : List ℕ) (k : ℕ) → 0 < k → get_or sorted (k - 1) 0 ≡ get_or sorted k 0 → IsFound starts sorted k found → IsFound starts sorted (k + 1) found
found_same starts sorted found k some same is =
    let e : suc (k - 1) ≡ k = omega arith in
    let f : k + 1 ≡ suc k = omega arith in
    let before : behind sorted k ≡ get_or sorted (k - 1) 0 + 1 = ap (behind sorted) (sym e) in
    rw f (is ∙ ap (passing (is_in starts)) (before ∙ ap (λ n. n + 1) same))

-- no start is behind the last one
end_none : (starts sorted : List ℕ) → IsPermutation starts sorted → IsNonDecreasing sorted → (t : ℕ) → behind sorted (length sorted) ≤ t → t < largest starts + 1 → is_in starts t ≡ false
end_none starts sorted same rises t low high =
    not_in starts t (λ has.
    let (i, within, is) = Contains-permutation starts sorted t same has in
    let at : get_or sorted i 0 ≡ t = get_or_default sorted i 0 t within ∙ is in
    let last : get_or sorted i 0 ≤ get_or sorted (length sorted - 1) 0 = rises i (length sorted - 1) 0 (omega arith) (omega arith) in
    let e : suc (length sorted - 1) ≡ length sorted = omega arith in
    let below : get_or sorted (length sorted - 1) 0 + 1 ≤ t = subst (λ m. behind sorted m ≤ t) (sym e) low in
    omega arith)

behind_low : (starts sorted : List ℕ) (n : ℕ) → IsPermutation starts sorted → n ≤ length sorted → behind sorted n ≤ largest starts + 1
behind_low starts sorted zero same l = omega arith
behind_low starts sorted (suc n) same l =
    let t = get_or sorted n 0 in
    let has : Contains sorted t = (n, omega arith, get_or_default sorted n t 0 (omega arith)) in
    omega (arith, le-largest starts t (Contains-permutation sorted starts t (IsPermutation-sym starts sorted same) has))

-- in the end nothing is missing
pub found_all : (starts sorted found : List ℕ) → IsPermutation starts sorted → IsNonDecreasing sorted → IsFound starts sorted (length sorted) found → found ≡ passing (is_in starts) (largest starts + 1)
found_all starts sorted found same rises is = is ∙ sym (later_fails (is_in starts) (behind sorted (length sorted)) (largest starts + 1) (behind_low starts sorted (length sorted) same (omega arith)) (end_none starts sorted same rises))

-- ---- the test of the loop

abbrev pub is_later : List ℕ → ℕ → Bool
is_later sorted k = (k == 0) || nat_lt (get_or sorted (k - 1) 0) (get_or sorted k 0)

later : (sorted : List ℕ) (k : ℕ) → is_later sorted k ≡ true → behind sorted k ≤ get_or sorted k 0
later sorted zero t = omega arith
later sorted (suc k) t =
    let e : suc k - 1 ≡ k = omega arith in
    let test : ((suc k == 0) || nat_lt (get_or sorted k 0) (get_or sorted (suc k) 0)) ≡ true = rw e at t in
    let l : get_or sorted k 0 < get_or sorted (suc k) 0 = grind (arith, nat_tests) in
    omega arith

-- one more period is found, or the start is that of the last one
pub start_told : (starts sorted found : List ℕ) (k : ℕ) → IsPermutation starts sorted → IsNonDecreasing sorted → k < length sorted → is_later sorted k ≡ true → IsFound starts sorted k found → IsFound starts sorted (k + 1) (found ++ get_or sorted k 0 ∷ [])
start_told starts sorted found k same rises inside t = found_more starts sorted found k same rises inside (later sorted k t)

pub start_passed : (starts sorted found : List ℕ) (k : ℕ) → IsNonDecreasing sorted → k < length sorted → is_later sorted k ≡ false → IsFound starts sorted k found → IsFound starts sorted (k + 1) found
start_passed starts sorted found k rises inside t =
    let some : 0 < k = grind (arith, nat_tests) in
    let up : get_or sorted k 0 ≤ get_or sorted (k - 1) 0 = grind (arith, nat_tests) in
    let down : get_or sorted (k - 1) 0 ≤ get_or sorted k 0 = rises (k - 1) k 0 (omega arith) inside in
    found_same starts sorted found k some (omega arith)
