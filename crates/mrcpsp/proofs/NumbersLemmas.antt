-- Sums, greatest values, tests and searches over the numbers below a bound.
use Rattle.std.proofs.Common.{◌≡◌, ℕ, zero, suc, ◌+◌, ◌<◌, ◌≤◌, Bool, true, false, cond, ◌==◌, List, [], ◌∷◌, length, map, get_or, All, sum_by, arith, refl, ap, add-zero, ⊎_elim, eq-eqb, ne_eqb}
use Rattle.std.proofs.lemmas.Bool.{and_parts, and_from, cond_both, cond-true, cond-false, cases_eq}
use Rattle.std.proofs.lemmas.List.Elements.{All-head, All-tail, All-nil, All-cons}
use Rattle.std.proofs.lemmas.List.Sums.{sum_by-cons}
use Rattle.mrcpsp.specs.Numbers.{sum_below, max_below, all_below, first_from, smallest, largest}

pub sum_below-le : (f g : ℕ → ℕ) (n : ℕ) → ((j : ℕ) → j < n → f j ≤ g j) → sum_below f n ≤ sum_below g n
sum_below-le f g zero h = omega arith
sum_below-le f g (suc n) h = omega (arith, sum_below-le f g n (λ j l. h j (omega arith)), h n (omega arith))

pub sum_below-same : (f g : ℕ → ℕ) (n : ℕ) → ((j : ℕ) → j < n → f j ≡ g j) → sum_below f n ≡ sum_below g n
sum_below-same f g zero h = refl
sum_below-same f g (suc n) h = omega (arith, sum_below-same f g n (λ j l. h j (omega arith)), h n (omega arith))

pub sum_below-more : (f : ℕ → ℕ) (n : ℕ) → sum_below f (n + 1) ≡ sum_below f n + f n
sum_below-more f n = let e : n + 1 ≡ suc n = omega arith in rw e refl

pub at-le-sum_below : (f : ℕ → ℕ) (n j : ℕ) → j < n → f j ≤ sum_below f n
at-le-sum_below f zero j l = absurd (omega arith)
at-le-sum_below f (suc n) j l = ⊎_elim (λ e. omega (arith, ap f e)) (λ (ne : j ≡ n → ⊥). omega (arith, at-le-sum_below f n j (omega arith))) (cases_eq j n)

-- the sum is one term and the others
pub sum_below-without : (f : ℕ → ℕ) (n x : ℕ) → x < n → sum_below f n ≡ f x + sum_below (λ j. cond (j == x) 0 (f j)) n
sum_below-without f zero x l = absurd (omega arith)
sum_below-without f (suc n) x l =
    ⊎_elim
    (λ (e : n ≡ x).
    let here : cond (n == x) 0 (f n) ≡ 0 = cond-true (n == x) 0 (f n) (eq-eqb n x e) in
    let others : sum_below (λ j. cond (j == x) 0 (f j)) n ≡ sum_below f n = sum_below-same (λ j. cond (j == x) 0 (f j)) f n (λ j k. cond-false (j == x) 0 (f j) (ne_eqb j x (omega arith))) in
    omega (arith, ap f e))
    (λ (ne : n ≡ x → ⊥).
    let here : cond (n == x) 0 (f n) ≡ f n = cond-false (n == x) 0 (f n) (ne_eqb n x ne) in
    omega (arith, sum_below-without f n x (omega arith)))
    (cases_eq n x)

pub at-le-max_below : (f : ℕ → ℕ) (n j : ℕ) → j < n → f j ≤ max_below f n
at-le-max_below f zero j l = absurd (omega arith)
at-le-max_below f (suc n) j l = ⊎_elim (λ e. omega (arith, ap f e)) (λ (ne : j ≡ n → ⊥). omega (arith, at-le-max_below f n j (omega arith))) (cases_eq j n)

pub max_below-le : (f : ℕ → ℕ) (n m : ℕ) → ((j : ℕ) → j < n → f j ≤ m) → max_below f n ≤ m
max_below-le f zero m h = omega arith
max_below-le f (suc n) m h = omega (arith, max_below-le f n m (λ j l. h j (omega arith)), h n (omega arith))

pub all_below-at : (test : ℕ → Bool) (n k : ℕ) → all_below test n ≡ true → k < n → test k ≡ true
all_below-at test zero k h l = absurd (omega arith)
all_below-at test (suc n) k h l =
    let parts = and_parts (test n) (all_below test n) h in
    ⊎_elim (λ (e : k ≡ n). rw e parts.0) (λ (ne : k ≡ n → ⊥). all_below-at test n k parts.1 (omega arith)) (cases_eq k n)

pub all_below-from : (test : ℕ → Bool) (n : ℕ) → ((k : ℕ) → k < n → test k ≡ true) → all_below test n ≡ true
all_below-from test zero h = refl
all_below-from test (suc n) h = and_from (test n) (all_below test n) (h n (omega arith)) (all_below-from test n (λ k l. h k (omega arith)))

pub first_from-ge : (test : ℕ → Bool) (k t : ℕ) → t ≤ first_from test k t
first_from-ge test zero t = omega arith
first_from-ge test (suc k) t = cond_both (test t) t (first_from test k (t + 1)) (λ x. t ≤ x) (λ e. omega arith) (λ e. omega (arith, first_from-ge test k (t + 1)))

pub first_from-le : (test : ℕ → Bool) (k t u : ℕ) → t ≤ u → test u ≡ true → first_from test k t ≤ u
first_from-le test zero t u l h = l
first_from-le test (suc k) t u l h =
    cond_both (test t) t (first_from test k (t + 1)) (λ x. x ≤ u) (λ e. l)
    (λ e. ⊎_elim (λ (same : t ≡ u). absurd (let e' : test u ≡ false = rw same at e in cc)) (λ (ne : t ≡ u → ⊥). first_from-le test k (t + 1) u (omega arith) h) (cases_eq t u))

pub first_from-passes : (test : ℕ → Bool) (k t : ℕ) → test (t + k) ≡ true → test (first_from test k t) ≡ true
first_from-passes test zero t h = rw (← add-zero t) h
first_from-passes test (suc k) t h =
    cond_both (test t) t (first_from test k (t + 1)) (λ x. test x ≡ true) (λ e. e)
    (λ e. let shift : t + suc k ≡ t + 1 + k = omega arith in first_from-passes test k (t + 1) (rw shift at h))

pub sum_by-le-all : {X : Type 0} (f g : X → ℕ) (xs : List X) → All (λ x. f x ≤ g x) xs → sum_by f xs ≤ sum_by g xs
sum_by-le-all f g [] h = omega arith
sum_by-le-all f g (x ∷ xs) h =
    let here : f x ≤ g x = All-head (λ y. f y ≤ g y) x xs h in
    let rest : sum_by f xs ≤ sum_by g xs = sum_by-le-all f g xs (All-tail (λ y. f y ≤ g y) x xs h) in
    omega (arith, sum_by-cons f x xs, sum_by-cons g x xs)

pub sum_by-same-all : {X : Type 0} (f g : X → ℕ) (xs : List X) → All (λ x. f x ≡ g x) xs → sum_by f xs ≡ sum_by g xs
sum_by-same-all f g [] h = refl
sum_by-same-all f g (x ∷ xs) h =
    let here : f x ≡ g x = All-head (λ y. f y ≡ g y) x xs h in
    let rest : sum_by f xs ≡ sum_by g xs = sum_by-same-all f g xs (All-tail (λ y. f y ≡ g y) x xs h) in
    omega (arith, sum_by-cons f x xs, sum_by-cons g x xs)

pub smallest-le : {X : Type 0} (f : X → ℕ) (xs : List X) (i : ℕ) (d : X) → i < length xs → smallest (map f xs) ≤ f (get_or xs i d)
smallest-le f [] i d l = absurd (omega arith)
smallest-le f (x ∷ []) zero d l = omega arith
smallest-le f (x ∷ []) (suc i) d l = absurd (omega arith)
smallest-le f (x ∷ y ∷ xs) zero d l = omega arith
smallest-le f (x ∷ y ∷ xs) (suc i) d l = omega (arith, smallest-le f (y ∷ xs) i d (omega arith))

pub largest-le : {X : Type 0} (f : X → ℕ) (xs : List X) (m : ℕ) → All (λ x. f x ≤ m) xs → largest (map f xs) ≤ m
largest-le f [] m h = omega arith
largest-le f (x ∷ xs) m h =
    let here : f x ≤ m = All-head (λ y. f y ≤ m) x xs h in
    omega (arith, largest-le f xs m (All-tail (λ y. f y ≤ m) x xs h))

pub all-le-largest : {X : Type 0} (f : X → ℕ) (xs : List X) (m : ℕ) → largest (map f xs) ≤ m → All (λ x. f x ≤ m) xs
all-le-largest f [] m h = All-nil (λ x. f x ≤ m)
all-le-largest f (x ∷ xs) m h = All-cons (λ y. f y ≤ m) x xs (omega arith) (all-le-largest f xs m (omega arith))
