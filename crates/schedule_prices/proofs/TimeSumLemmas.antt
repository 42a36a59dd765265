-- Sums of the ends of a list of numbers.
use Rattle.std.proofs.Common.{◌≡◌, ℕ, ◌+◌, ◌<◌, ◌≤◌, List, length, get_or, take, drop, set, sum, arith, ap, ◌-◌, ◌≢◌, ⊎_elim}
use Rattle.std.proofs.lemmas.Bool.{cases_eq}
use Rattle.std.proofs.lemmas.List.{get_or-set_same, get_or-set_other}
use Rattle.std.proofs.lemmas.List.Sums.{sum_by_more, sum_by-drop_more, sum_by-take-drop}

pub sum-take_more : (xs : List ℕ) (i : ℕ) → i < length xs → sum (take (i + 1) xs) ≡ sum (take i xs) + get_or xs i 0
sum-take_more xs i l = sum_by_more (λ x. x) xs i 0 l

pub sum-take-le : (xs : List ℕ) (i : ℕ) → sum (take i xs) ≤ sum xs
sum-take-le xs i = omega (arith, sum_by-take-drop (λ (x : ℕ). x) xs i)

pub sum-drop-le : (xs : List ℕ) (i : ℕ) → sum (drop i xs) ≤ sum xs
sum-drop-le xs i = omega (arith, sum_by-take-drop (λ (x : ℕ). x) xs i)

pub sum-drop_back : (xs : List ℕ) (i : ℕ) → 0 < i → i ≤ length xs → sum (drop (i - 1) xs) ≡ sum (drop i xs) + get_or xs (i - 1) 0
sum-drop_back xs i some l =
    let step : i - 1 + 1 ≡ i = omega arith in
    let more : sum (drop (i - 1) xs) ≡ get_or xs (i - 1) 0 + sum (drop (i - 1 + 1) xs) = sum_by-drop_more (λ x. x) xs (i - 1) 0 (omega arith) in
    omega (arith, more, ap (λ k. sum (drop k xs)) step)

pub ruleset line_rules = (sum-take_more, sum-drop_back, sum-take-le, sum-drop-le)

-- a step of the sums from the end
pub behind-step : (old now : List ℕ) (time total : ℕ) → 0 < time → time ≤ length old → length now ≡ length old → total ≡ sum (drop time old)
    → ((t : ℕ) → time ≤ t → t < length old → get_or now t 0 ≡ sum (drop t old)) → ((t : ℕ) → t < time → get_or now t 0 ≡ get_or old t 0)
    → (total + get_or now (time - 1) 0 ≡ sum (drop (time - 1) old))
    × ((t : ℕ) → time - 1 ≤ t → t < length old → get_or (set now (time - 1) (total + get_or now (time - 1) 0)) t 0 ≡ sum (drop t old))
    × ((t : ℕ) → t < time - 1 → get_or (set now (time - 1) (total + get_or now (time - 1) 0)) t 0 ≡ get_or old t 0)
behind-step old now time total some most wide sum-is done rest =
    let i = time - 1 in
    let y = total + get_or now i 0 in
    let here : y ≡ sum (drop i old) = omega (arith, sum-drop_back old time some most, rest i (omega arith)) in
    let inside : i < length now = omega arith in (
      here,
      λ t l short. ⊎_elim
          (λ (e : t ≡ i). rw (e, get_or-set_same now i y 0 inside) here)
          (λ (ne : t ≢ i). rw (get_or-set_other now i t y 0 ne) (done t (omega arith) short))
          (cases_eq t i),
      λ t l. let ne : t ≢ i = omega arith in rw (get_or-set_other now i t y 0 ne) (rest t (omega arith)),
    )
