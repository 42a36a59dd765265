-- Lists of placed activities: who is placed, look-ups, counts and sums.
use Rattle.std.proofs.Common.{◌≡◌, ℕ, zero, suc, ◌+◌, ◌<◌, ◌≤◌, true, false, cond, ◌||◌, ◌==◌, List, [], ◌∷◌, ◌++◌, length, get_or, All, sum_by, arith, refl, sym, ◌∙◌, subst, ⊎_elim}
use Rattle.std.proofs.lemmas.Bool.Decides.{nat_tests}
use Rattle.std.proofs.lemmas.Bool.{both_ways, or_cases, or_parts, or_from, or_left, or_right, cond-true, cond-false, cases_Bool, false≢true, eqb-true, eqb-false, eq-eqb, ne_eqb}
use Rattle.std.proofs.lemmas.List.Elements.{All-head, All-tail, All-nil, All-cons}
use Rattle.std.proofs.lemmas.List.Sums.{sum_by-cons, fold_push}
use Rattle.std.proofs.lemmas.List.Recursion.{or_push}
use Rattle.mrcpsp.specs.Numbers.{sum_below}
use Rattle.mrcpsp.specs.Placed.{IsDistinct, Placed, is_placed, mode_in, start_in, last_start}
use Rattle.mrcpsp.proofs.NumbersLemmas.{sum_below-same, sum_below-without, at-le-sum_below}

pub is_placed_push : (placed : List Placed) (a : Placed) (j : ℕ) → is_placed (placed ++ a ∷ []) j ≡ (is_placed placed j || (a.activity == j))
is_placed_push placed a j = or_push (λ xs. is_placed xs j) (λ (b : Placed). b.activity == j) refl (λ _ _. refl) placed a

pub last_start_push : (placed : List Placed) (a : Placed) → last_start (placed ++ a ∷ []) ≡ a.start
unfolding last_start
last_start_push placed a = fold_push (λ _ (b : Placed). b.start) 0 placed a

pub IsDistinct-push : (placed : List Placed) (a : Placed) → IsDistinct placed → is_placed placed a.activity ≡ false → IsDistinct (placed ++ a ∷ [])
IsDistinct-push [] a h new = (refl, tt)
IsDistinct-push (b ∷ placed) a h new =
    let parts = or_parts (b.activity == a.activity) (is_placed placed a.activity) new in
    let other : (a.activity == b.activity) ≡ false = ne_eqb a.activity b.activity (λ e. eqb-false b.activity a.activity parts.0 (sym e)) in
    (is_placed_push placed a b.activity ∙ or_from (is_placed placed b.activity) (a.activity == b.activity) h.0 other, IsDistinct-push placed a h.1 parts.1)

-- a look-up finds what holds of every placed one
pub looked_up : (P : ℕ → ℕ → ℕ → Type 0) (placed : List Placed) (j : ℕ) → All (λ a. P a.activity a.mode a.start) placed → is_placed placed j ≡ true → P j (mode_in placed j) (start_in placed j)
looked_up P [] j h e = absurd (false≢true e)
looked_up P (a ∷ placed) j h e =
    elim (a.activity == j) as (λ b. (a.activity == j) ≡ b → P j (cond b a.mode (mode_in placed j)) (cond b a.start (start_in placed j))) [
      | true ↦ λ here. subst (λ x. P x a.mode a.start) (eqb-true a.activity j here) (All-head (λ (b : Placed). P b.activity b.mode b.start) a placed h)
      | false ↦ λ other. looked_up P placed j (All-tail (λ (b : Placed). P b.activity b.mode b.start) a placed h) (rest other)
    ] refl
  where
    rest : (a.activity == j) ≡ false → is_placed placed j ≡ true
    rest other = ⊎_elim (λ here. absurd (false≢true (let x : false ≡ true = cc in x))) (λ there. there) (or_cases (a.activity == j) (is_placed placed j) e)

swapped : (a : Placed) (placed : List Placed) (f : ℕ → ℕ) (j : ℕ) → cond (j == a.activity) 0 (cond (is_placed placed j) 0 (f j)) ≡ cond ((a.activity == j) || is_placed placed j) 0 (f j)
swapped a placed f j = grind (arith, nat_tests)

-- the sum over the placed ones and the sum over the others make the sum over all
pub sum_split : (f : ℕ → ℕ) (n : ℕ) (placed : List Placed) → IsDistinct placed → All (λ a. a.activity < n) placed → sum_by (λ a. f a.activity) placed + sum_below (λ j. cond (is_placed placed j) 0 (f j)) n ≡ sum_below f n
sum_split f n [] distinct inside = omega arith
sum_split f n (a ∷ placed) distinct inside =
    let here : a.activity < n = All-head (λ (b : Placed). b.activity < n) a placed inside in
    let others : sum_by (λ (b : Placed). f b.activity) placed + sum_below (λ j. cond (is_placed placed j) 0 (f j)) n ≡ sum_below f n = sum_split f n placed distinct.1 (All-tail (λ (b : Placed). b.activity < n) a placed inside) in
    let apart : sum_below (λ j. cond (is_placed placed j) 0 (f j)) n ≡ cond (is_placed placed a.activity) 0 (f a.activity) + sum_below (λ j. cond (j == a.activity) 0 (cond (is_placed placed j) 0 (f j))) n = sum_below-without (λ j. cond (is_placed placed j) 0 (f j)) n a.activity here in
    let mine : cond (is_placed placed a.activity) 0 (f a.activity) ≡ f a.activity = cond-false (is_placed placed a.activity) 0 (f a.activity) distinct.0 in
    let same : sum_below (λ j. cond (j == a.activity) 0 (cond (is_placed placed j) 0 (f j))) n ≡ sum_below (λ j. cond (is_placed (a ∷ placed) j) 0 (f j)) n = sum_below-same (λ j. cond (j == a.activity) 0 (cond (is_placed placed j) 0 (f j))) (λ j. cond (is_placed (a ∷ placed) j) 0 (f j)) n (λ j l. swapped a placed f j) in
    omega (arith, sum_by-cons (λ (b : Placed). f b.activity) a placed)

counts : {X : Type 0} (xs : List X) → sum_by (λ _. 1) xs ≡ length xs
counts [] = refl
counts (x ∷ xs) = omega (arith, sum_by-cons (λ _. 1) x xs, counts xs)

ones : (n : ℕ) → sum_below (λ _. 1) n ≡ n
ones zero = refl
ones (suc n) = omega (arith, ones n)

-- the placed ones and the others are all
pub count_split : (n : ℕ) (placed : List Placed) → IsDistinct placed → All (λ a. a.activity < n) placed → length placed + sum_below (λ j. cond (is_placed placed j) 0 1) n ≡ n
count_split n placed distinct inside = omega (arith, sum_split (λ _. 1) n placed distinct inside, counts placed, ones n)

-- if the number of placed activities is the number of all, each is placed
pub all_placed : (n : ℕ) (placed : List Placed) → IsDistinct placed → All (λ a. a.activity < n) placed → length placed ≡ n → (j : ℕ) → j < n → is_placed placed j ≡ true
all_placed n placed distinct inside full j l =
    let one : cond (is_placed placed j) 0 1 ≤ sum_below (λ j. cond (is_placed placed j) 0 1) n = at-le-sum_below (λ j. cond (is_placed placed j) 0 1) n j l in
    let none : sum_below (λ j. cond (is_placed placed j) 0 1) n ≡ 0 = omega (arith, count_split n placed distinct inside) in
    ⊎_elim (λ e. e) (λ e. absurd (let x : cond {A = ℕ} (is_placed placed j) 0 1 ≡ 1 = cond-false (is_placed placed j) 0 1 e in omega arith)) (cases_Bool (is_placed placed j))

-- each placed one is placed
pub each_is_placed : (placed : List Placed) → All (λ a. is_placed placed a.activity ≡ true) placed
each_is_placed [] = All-nil (λ (a : Placed). is_placed [] a.activity ≡ true)
each_is_placed (a ∷ placed) =
    All-cons (λ (b : Placed). is_placed (a ∷ placed) b.activity ≡ true) a placed
    (or_left (a.activity == a.activity) (is_placed placed a.activity) (eq-eqb a.activity a.activity refl))
    (λ k d l. or_right (a.activity == (get_or placed k d).activity) (is_placed placed (get_or placed k d).activity) (each_is_placed placed k d l))

-- the placed ones look themselves up
pub looks_itself_up : (placed : List Placed) → IsDistinct placed → All (λ a. (mode_in placed a.activity ≡ a.mode) × (start_in placed a.activity ≡ a.start)) placed
looks_itself_up [] distinct = All-nil (λ (a : Placed). (mode_in [] a.activity ≡ a.mode) × (start_in [] a.activity ≡ a.start))
looks_itself_up (a ∷ placed) distinct =
    All-cons (λ (b : Placed). (mode_in (a ∷ placed) b.activity ≡ b.mode) × (start_in (a ∷ placed) b.activity ≡ b.start)) a placed
    (let same = eq-eqb a.activity a.activity refl in (cond-true (a.activity == a.activity) a.mode _ same, cond-true (a.activity == a.activity) a.start _ same))
    (λ k d l.
    let b = get_or placed k d in
    let other : (a.activity == b.activity) ≡ false = ne_eqb a.activity b.activity (λ e. both_ways (is_placed placed b.activity) (rw e at distinct.0) (each_is_placed placed k d l)) in
    let found = looks_itself_up placed distinct.1 k d l in
    (cond-false (a.activity == b.activity) a.mode (mode_in placed b.activity) other ∙ found.0, cond-false (a.activity == b.activity) a.start (start_in placed b.activity) other ∙ found.1))
