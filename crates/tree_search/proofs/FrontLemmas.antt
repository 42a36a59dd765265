-- What the running ones give back: step by step along the list.
use Rattle.std.proofs.Common.{◌≡◌, ℕ, zero, suc, ◌+◌, ◌-◌, ◌<◌, ◌≤◌, cond, nat_le, nat_lt, true, false, List, [], ◌∷◌, ◌++◌, drop, take, length, get_or, arith, refl, ap, ◌∙◌, ⊎_elim, sym}
use Rattle.std.proofs.lemmas.Bool.{le-leb, lt-ltb, ltb-true, cond-true, cond-false, leb-true, cases_lt, cases_eq, cases_Bool}
use Rattle.std.specs.List.{slice_range}
use Rattle.std.proofs.lemmas.List.{drop_all, drop_at, drop-take, take-take, get_or_append_left, get_or_push, length_push}
use Rattle.std.proofs.lemmas.List.Sums.{sum_by-drop_more, sum_by_push}
use Rattle.tree_search.specs.declared.front.Running.{Running}
use Rattle.tree_search.specs.Front.{IsRising, finish_at, left_at, no_running, returned, returned_by}

pub nothing_back : (r t : ℕ) → returned [] r t ≡ 0
unfolding returned
nothing_back r t = refl

pub next_back : (running : List Running) (k r t : ℕ) → k < length running → returned (drop k running) r t ≡ returned_by r t (get_or running k no_running) + returned (drop (k + 1) running) r t
unfolding returned
next_back running k r t inside = sum_by-drop_more (returned_by r t) running k no_running inside

pub push_back : (running : List Running) (a : Running) (r t : ℕ) → returned (running ++ a ∷ []) r t ≡ returned running r t + returned_by r t a
unfolding returned
push_back running a r t = sum_by_push (returned_by r t) running a

pub past_back : (running : List Running) (k r t : ℕ) → length running ≤ k → returned (drop k running) r t ≡ 0
past_back running k r t past = ap (λ (xs : List Running). returned xs r t) (drop_all k running past) ∙ nothing_back r t

-- by its finish one has given back its request, and before it nothing
pub back_by : (r t : ℕ) (a : Running) → a.finish ≤ t → returned_by r t a ≡ get_or a.request r 0
back_by r t a over = cond-true (nat_le a.finish t) (get_or a.request r 0) 0 (le-leb a.finish t over)

pub not_back : (r t : ℕ) (a : Running) → t < a.finish → returned_by r t a ≡ 0
not_back r t a runs =
    ⊎_elim
    (λ (e : nat_le a.finish t ≡ true). absurd (omega (arith, leb-true a.finish t e, runs)))
    (λ (e : nat_le a.finish t ≡ false). cond-false (nat_le a.finish t) (get_or a.request r 0) 0 e)
    (cases_Bool (nat_le a.finish t))

pub back_most : (r t : ℕ) (a : Running) → returned_by r t a ≤ get_or a.request r 0
back_most r t a =
    ⊎_elim
    (λ (runs : t < a.finish). omega (arith, not_back r t a runs))
    (λ (over : a.finish ≤ t). omega (arith, back_by r t a over))
    (cases_lt t a.finish)

-- before the finish of place k none from there on has given back anything
pub none_back : (running : List Running) (k r t : ℕ) → ((i : ℕ) → k ≤ i → i < length running → t < finish_at running i) → returned (drop k running) r t ≡ 0
none_back running k r t late = go (length running - k) k (λ i above inside. late i above inside) (omega arith)
  where
    go : (n k : ℕ) → ((i : ℕ) → k ≤ i → i < length running → t < finish_at running i) → length running ≤ n + k → returned (drop k running) r t ≡ 0
    go zero k late few = past_back running k r t (omega arith)
    go (suc n) k late few =
        ⊎_elim
        (λ (inside : k < length running). omega (arith, next_back running k r t inside, not_back r t (get_or running k no_running) (late k (omega arith) inside), go n (k + 1) (λ i above within. late i (omega arith) within) (omega arith)))
        (λ (past : length running ≤ k). past_back running k r t past)
        (cases_lt k (length running))

-- the finishes from place k on are no earlier than its own
pub rising_from : (running : List Running) (k i : ℕ) → IsRising running → k ≤ i → i < length running → finish_at running k ≤ finish_at running i
rising_from running k i rising above inside =
    ⊎_elim
    (λ (e : k ≡ i). omega (arith, ap (finish_at running) e))
    (λ (ne : k ≡ i → ⊥). rising k i (omega arith) inside)
    (cases_eq k i)

-- one takes its request until it gives it back
pub taken_or_back : (r t : ℕ) (a : Running) → cond (nat_lt t a.finish) (get_or a.request r 0) 0 + returned_by r t a ≡ get_or a.request r 0
taken_or_back r t a =
    ⊎_elim
    (λ (runs : t < a.finish). omega (arith, not_back r t a runs, cond-true (nat_lt t a.finish) (get_or a.request r 0) 0 (lt-ltb t a.finish runs)))
    (λ (over : a.finish ≤ t).
    ⊎_elim
    (λ (e : nat_lt t a.finish ≡ true). absurd (omega (arith, ltb-true t a.finish e, over)))
    (λ (e : nat_lt t a.finish ≡ false). omega (arith, back_by r t a over, cond-false (nat_lt t a.finish) (get_or a.request r 0) 0 e))
    (cases_Bool (nat_lt t a.finish)))
    (cases_lt t a.finish)

-- one more at the end
pub finish_before : (running : List Running) (a : Running) (i : ℕ) → i < length running → finish_at (running ++ a ∷ []) i ≡ finish_at running i
finish_before running a i inside = ap (λ (x : Running). x.finish) (get_or_append_left running (a ∷ []) no_running i inside)

pub finish_last : (running : List Running) (a : Running) (i : ℕ) → length running ≡ i → finish_at (running ++ a ∷ []) i ≡ a.finish
finish_last running a i e = ap (λ (x : Running). x.finish) (get_or_push running a no_running i e)

-- what is not before a bound that all finishes keep keeps them rising
pub finish_push : (running : List Running) (a : Running) (bound : ℕ) → ((i : ℕ) → i < length running → finish_at running i ≤ bound) → a.finish ≤ bound → (i : ℕ) → i < length running + 1 → finish_at (running ++ a ∷ []) i ≤ bound
finish_push running a bound all own i inside =
    ⊎_elim
    (λ (before : i < length running). omega (arith, finish_before running a i before, all i before))
    (λ (here : length running ≤ i). omega (arith, finish_last running a i (omega (arith, here, inside)), own))
    (cases_lt i (length running))

pub rising_push : (running : List Running) (a : Running) → IsRising running → ((i : ℕ) → i < length running → finish_at running i ≤ a.finish) → IsRising (running ++ a ∷ [])
rising_push running a rising under i k l inside =
    let many : length (running ++ a ∷ []) ≡ length running + 1 = length_push running a in
    let left : finish_at (running ++ a ∷ []) i ≡ finish_at running i = finish_before running a i (omega (arith, many, l, inside)) in
    ⊎_elim
    (λ (before : k < length running). omega (arith, left, finish_before running a k before, rising i k l before))
    (λ (here : length running ≤ k). omega (arith, left, finish_last running a k (omega (arith, many, here, inside)), under i (omega (arith, many, l, inside))))
    (cases_lt k (length running))

-- what does not fit in all resources does not fit in one
pub short_of : (free request : List ℕ) (n : ℕ) → (((r : ℕ) → r < n → get_or request r 0 ≤ get_or free r 0) → ⊥) → (r : ℕ) × (r < n) × (get_or free r 0 < get_or request r 0)
short_of free request zero unfit = absurd (unfit (λ r l. absurd (omega arith)))
short_of free request (suc n) unfit =
    ⊎_elim
    (λ (short : get_or free n 0 < get_or request n 0). (n, omega arith, short))
    (λ (enough : get_or request n 0 ≤ get_or free n 0).
    let (r, l, short) = short_of free request n (λ all. unfit (λ r l.
    ⊎_elim
    (λ (e : r ≡ n). rw e enough)
    (λ (ne : r ≡ n → ⊥). all r (omega arith))
    (cases_eq r n))) in
    (r, omega arith, short))
    (cases_lt (get_or free n 0) (get_or request n 0))

-- while the request does not fit, some one still runs: at some time it fits
pub some_runs : (free left request : List ℕ) (running : List Running) (at : ℕ) → ((t : ℕ) × ((r : ℕ) → r < 8 → get_or request r 0 ≤ left_at free running r t)) → ((r t : ℕ) → r < 8 → left_at free running r t ≤ left_at left (drop at running) r t) → (((r : ℕ) → r < 8 → get_or request r 0 ≤ get_or left r 0) → ⊥) → at < length running
some_runs free left request running at enough most unfit =
    ⊎_elim
    (λ (l : at < length running). l)
    (λ (past : length running ≤ at).
    let (t, all) = enough in
    absurd (unfit (λ r among. omega (arith, all r among, most r t among, past_back running at r t past))))
    (cases_lt at (length running))

-- the second of two joined parts, up to n
pub range_behind : (xs ys : List Running) (base n : ℕ) → length xs ≡ base → slice_range (xs ++ ys) base (base + n) ≡ take n ys
range_behind xs ys base n e =
    let d : drop base (xs ++ ys) ≡ ys = drop_at xs ys base e in
    let m : base + n - base ≡ n = omega arith in
    rw (d, m) refl

-- what is written behind a list leaves it as it is
pub range_before : (xs : List Running) (at upto base : ℕ) → at ≤ upto → upto ≤ base → slice_range (take base xs) at upto ≡ slice_range xs at upto
range_before xs at upto base order l =
    let m : ℕ = base - at in
    let e : at + m ≡ base = omega (arith, order, l) in
    let d : drop at (take base xs) ≡ take m (drop at xs) = ap (λ (n : ℕ). drop at (take n xs)) (sym e) ∙ drop-take at m xs in
    ap (λ (zs : List Running). take (upto - at) zs) d ∙ take-take (upto - at) m (drop at xs) (omega (arith, order, l))

pub range_kept : (xs ys : List Running) (at upto base : ℕ) → at ≤ upto → upto ≤ base → take base xs ≡ take base ys → slice_range xs at upto ≡ slice_range ys at upto
range_kept xs ys at upto base order l same =
    sym (range_before xs at upto base order l) ∙ ap (λ (zs : List Running). slice_range zs at upto) same ∙ range_before ys at upto base order l

pub empty_range : (xs : List Running) (at upto : ℕ) → at ≡ 0 → upto ≡ 0 → slice_range xs at upto ≡ []
empty_range xs at upto a b = rw (a, b) refl
