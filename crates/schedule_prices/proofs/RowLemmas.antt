-- A feasible schedule keeps each priced row, and so pays at most the supply.
use Rattle.std.proofs.Common.{◌≡◌, ℕ, zero, suc, ◌+◌, ◌*◌, ◌<◌, ◌≤◌, Bool, true, cond, ◌&&◌, ◌==◌, List, [], ◌∷◌, arith, refl, ap, ⊎_elim, eq-eqb, ne_eqb}
use Rattle.std.specs.Prelude.{nat_le, nat_lt}
use Rattle.std.specs.List.{list_all}
use Rattle.std.proofs.Math.Nat.{mul-add, mul-le-mul_left}
use Rattle.std.proofs.lemmas.Bool.{cases_eq, and_parts, ltb-true}
use Rattle.std.proofs.lemmas.Bool.Decides.{nat_tests}
use Rattle.std.proofs.lemmas.List.Sums.{sum_by-cons}
use Rattle.mrcpsp.specs.Numbers.{sum_below}
use Rattle.mrcpsp.specs.Project.{ProjectData, size, precedes}
use Rattle.mrcpsp.specs.Schedule.{ScheduleData, IsFeasible, mode_of, start_of, finish, use_of, consumed}
use Rattle.mrcpsp.proofs.NumbersLemmas.{sum_below-same}
use Rattle.schedule_prices.specs.declared.row.PricedRow.{PricedRow}
use Rattle.schedule_prices.specs.declared.row.PricedRow.TheVariants.{Use, Stock, Before}
use Rattle.schedule_prices.specs.declared.row.Price.{Price}
use Rattle.schedule_prices.specs.Rows.{amount, limit, is_row, cost, supply, are_rows, taken, paid}

-- sums of sums, and of multiples
pub sum_below-added : (f g : ℕ → ℕ) (n : ℕ) → sum_below (λ j. f j + g j) n ≡ sum_below f n + sum_below g n
sum_below-added f g zero = refl
sum_below-added f g (suc n) = omega (arith, sum_below-added f g n)

pub sum_below-times : (c : ℕ) (f : ℕ → ℕ) (n : ℕ) → sum_below (λ j. c * f j) n ≡ c * sum_below f n
sum_below-times c f zero = omega arith
sum_below-times c f (suc n) = rw (mul-add c (sum_below f n) (f n)) (ap (λ x. x + c * f n) (sum_below-times c f n))

pub sum_below-none : (n : ℕ) → sum_below (λ _. 0) n ≡ 0
sum_below-none zero = refl
sum_below-none (suc n) = omega (arith, sum_below-none n)

-- one for activity x if it passes the test
abbrev only : (ℕ → Bool) → ℕ → ℕ → ℕ
only test x j = cond ((j == x) && test j) 1 0

before : (test : ℕ → Bool) (x n : ℕ) → n ≤ x → sum_below (only test x) n ≡ 0
before test x zero l = refl
before test x (suc n) l =
    let here : only test x n ≡ 0 = rw (ne_eqb n x (omega arith)) refl in
    omega (arith, here, before test x n (omega arith))

single : (test : ℕ → Bool) (x n : ℕ) → sum_below (only test x) n ≤ cond (test x) 1 0
single test x zero = omega arith
single test x (suc n) =
    ⊎_elim
    (λ (e : n ≡ x).
    let here : only test x n ≤ cond (test x) 1 0 = rw (eq-eqb n x e, e) (omega arith) in
    omega (arith, here, before test x n (omega arith)))
    (λ (ne : n ≡ x → ⊥).
    let here : only test x n ≡ 0 = rw (ne_eqb n x ne) refl in
    omega (arith, here, single test x n))
    (cases_eq n x)

-- what has started by u is behind what is over by u
one : (a b u : ℕ) → b ≤ a → cond (nat_le a u) 1 0 + cond (nat_lt u b) 1 0 ≤ 1
one a b u l = grind (arith, nat_tests)

-- the parts of a test of a precedence's row
pub row-precedes : (p : ProjectData) (i k : ℕ) → (nat_lt i (size p) && (nat_lt k (size p) && precedes p i k)) ≡ true → (i < size p) × (k < size p) × (precedes p i k ≡ true)
row-precedes p i k e =
    let outer = and_parts (nat_lt i (size p)) (nat_lt k (size p) && precedes p i k) e in
    let inner = and_parts (nat_lt k (size p)) (precedes p i k) outer.1 in
    (ltb-true i (size p) outer.0, ltb-true k (size p) inner.0, inner.1)

-- law 1
pub keeps-row : (p : ProjectData) (s : ScheduleData) (row : PricedRow) → IsFeasible p s → is_row p row ≡ true → taken p s row (size p) ≤ limit p row
unfolding use_of consumed finish
keeps-row p s (Use r u) feasible known = feasible.renewable r u (ltb-true r _ known)
keeps-row p s (Stock k) feasible known = feasible.nonrenewable k (ltb-true k _ known)
keeps-row p s (Before i k u) feasible known =
    let begun : ℕ → Bool = λ j. nat_le (start_of s j) u in
    let runs : ℕ → Bool = λ j. nat_lt u (finish p s j) in
    let both = sum_below-added (only begun k) (only runs i) (size p) in
    let first = single begun k (size p) in
    let second = single runs i (size p) in
    let arc = row-precedes p i k known in
    let after : finish p s i ≤ start_of s k = feasible.precedence i k arc.0 arc.1 arc.2 in
    let most : cond (begun k) 1 0 + cond (runs i) 1 0 ≤ 1 = one (start_of s k) (finish p s i) u after in
    omega (arith, both, first, second, most)

-- law 2
pub pays-at-most : (p : ProjectData) (s : ScheduleData) (prices : List Price) → IsFeasible p s → are_rows p prices ≡ true → paid p s prices (size p) ≤ supply p prices
unfolding cost supply
pays-at-most p s [] feasible rows = omega (arith, sum_below-none (size p))
pays-at-most p s (x ∷ prices) feasible rows =
    let n = size p in
    let parts = and_parts (is_row p x.row) (list_all (λ y. is_row p y.row) prices) rows in
    let here : ℕ → ℕ = λ j. amount p x.row j (mode_of s j) (start_of s j) in
    let split = sum_below-same (λ j. cost p (x ∷ prices) j (mode_of s j) (start_of s j)) (λ j. x.price * here j + cost p prices j (mode_of s j) (start_of s j)) n
    (λ j l. sum_by-cons (λ y. y.price * amount p y.row j (mode_of s j) (start_of s j)) x prices) in
    let both = sum_below-added (λ j. x.price * here j) (λ j. cost p prices j (mode_of s j) (start_of s j)) n in
    let kept : x.price * sum_below here n ≤ x.price * limit p x.row = mul-le-mul_left x.price (keeps-row p s x.row feasible parts.0) in
    let rest = pays-at-most p s prices feasible parts.1 in
    let whole = sum_by-cons (λ y. y.price * limit p y.row) x prices in
    omega (arith, split, both, sum_below-times x.price here n, kept, rest, whole)
