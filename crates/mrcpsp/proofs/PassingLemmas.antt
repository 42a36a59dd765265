-- What passes a test, of a list or of the numbers below a bound: as a loop finds it, and what it is.
use Rattle.std.proofs.Common.{◌≡◌, ℕ, zero, suc, ◌+◌, ◌<◌, Bool, true, false, add-one, List, [], ◌∷◌, ◌++◌, All, length, get_or, take, map, filter, arith, refl, ap, sym, ◌∙◌, subst, ⊎_elim}
use Rattle.std.specs.List.{Contains, range_with_len, flat_map}
use Rattle.std.proofs.lemmas.Bool.{cond-true, cond-false, cases_eq, cases_Bool}
use Rattle.std.proofs.lemmas.List.{append-nil, append_assoc, map-append, take_more}
use Rattle.std.proofs.lemmas.List.Concat.{flat_map-append}
use Rattle.std.proofs.lemmas.List.Elements.{filter-append, All-nil, All-cons, All-append, Contains-append_left, Contains-append_right}
use Rattle.mrcpsp.specs.Breaches.{passing}

-- ---- one more

range_longer : (first count : ℕ) → range_with_len first (suc count) ≡ range_with_len first count ++ (first + count) ∷ []
range_longer first zero = let e : first + 0 ≡ first = omega arith in rw e refl
range_longer first (suc count) =
    let e : first + 1 + count ≡ first + suc count = omega arith in
    ap (λ xs. first ∷ xs) (range_longer (first + 1) count ∙ ap (λ m. range_with_len (first + 1) count ++ m ∷ []) e)

pub range_more : (n : ℕ) → range_with_len 0 (n + 1) ≡ range_with_len 0 n ++ n ∷ []
range_more n =
    let e : 0 + n ≡ n = omega arith in
    rw add-one (range_longer 0 n ∙ ap (λ m. range_with_len 0 n ++ m ∷ []) e)

pub filter_passes : (test : ℕ → Bool) (xs : List ℕ) (x : ℕ) → test x ≡ true → filter test (xs ++ x ∷ []) ≡ filter test xs ++ x ∷ []
filter_passes test xs x pass = filter-append test xs (x ∷ []) ∙ ap (λ l. filter test xs ++ l) (cond-true (test x) (x ∷ []) [] pass)

pub filter_fails : (test : ℕ → Bool) (xs : List ℕ) (x : ℕ) → test x ≡ false → filter test (xs ++ x ∷ []) ≡ filter test xs
filter_fails test xs x fail = filter-append test xs (x ∷ []) ∙ ap (λ l. filter test xs ++ l) (cond-false (test x) (x ∷ []) [] fail) ∙ append-nil (filter test xs)

module _ {X : Type 0} (f : ℕ → X) where
  told_passes : (test : ℕ → Bool) (xs : List ℕ) (x : ℕ) (old now : List X) → test x ≡ true → now ≡ old ++ map f (filter test xs) → now ++ f x ∷ [] ≡ old ++ map f (filter test (xs ++ x ∷ []))
  told_passes test xs x old now pass h =
      ap (λ l. l ++ f x ∷ []) h ∙ append_assoc old (map f (filter test xs)) (f x ∷ [])
      ∙ ap (λ l. old ++ l) (sym (ap (map f) (filter_passes test xs x pass) ∙ map-append f (filter test xs) (x ∷ [])))

  told_fails : (test : ℕ → Bool) (xs : List ℕ) (x : ℕ) (old now : List X) → test x ≡ false → now ≡ old ++ map f (filter test xs) → now ≡ old ++ map f (filter test (xs ++ x ∷ []))
  told_fails test xs x old now fail h = h ∙ ap (λ l. old ++ map f l) (sym (filter_fails test xs x fail))

  -- the next number, and the next element, is listed or not
  pub number_told : (test : ℕ → Bool) (n : ℕ) (old now : List X) → test n ≡ true → now ≡ old ++ map f (passing test n) → now ++ f n ∷ [] ≡ old ++ map f (passing test (n + 1))
  number_told test n old now pass h = told_passes test (range_with_len 0 n) n old now pass h ∙ ap (λ xs. old ++ map f (filter test xs)) (sym (range_more n))

  pub number_passed : (test : ℕ → Bool) (n : ℕ) (old now : List X) → test n ≡ false → now ≡ old ++ map f (passing test n) → now ≡ old ++ map f (passing test (n + 1))
  number_passed test n old now fail h = told_fails test (range_with_len 0 n) n old now fail h ∙ ap (λ xs. old ++ map f (filter test xs)) (sym (range_more n))

  pub element_told : (test : ℕ → Bool) (xs : List ℕ) (k : ℕ) (old now : List X) → k < length xs → test (get_or xs k 0) ≡ true → now ≡ old ++ map f (filter test (take k xs)) → now ++ f (get_or xs k 0) ∷ [] ≡ old ++ map f (filter test (take (k + 1) xs))
  element_told test xs k old now inside pass h = told_passes test (take k xs) (get_or xs k 0) old now pass h ∙ ap (λ l. old ++ map f (filter test l)) (sym (take_more xs k 0 inside))

  pub element_passed : (test : ℕ → Bool) (xs : List ℕ) (k : ℕ) (old now : List X) → k < length xs → test (get_or xs k 0) ≡ false → now ≡ old ++ map f (filter test (take k xs)) → now ≡ old ++ map f (filter test (take (k + 1) xs))
  element_passed test xs k old now inside fail h = told_fails test (take k xs) (get_or xs k 0) old now fail h ∙ ap (λ l. old ++ map f (filter test l)) (sym (take_more xs k 0 inside))

-- the list of the next number is added
pub list_told : {X : Type 0} (f : ℕ → List X) (n : ℕ) (old now new : List X) → now ≡ old ++ flat_map f (range_with_len 0 n) → new ≡ now ++ f n → new ≡ old ++ flat_map f (range_with_len 0 (n + 1))
list_told f n old now new h e =
    e ∙ ap (λ l. l ++ f n) h ∙ append_assoc old (flat_map f (range_with_len 0 n)) (f n)
    ∙ ap (λ l. old ++ l) (sym (ap (flat_map f) (range_more n) ∙ flat_map-append f (range_with_len 0 n) (n ∷ []) ∙ ap (λ l. flat_map f (range_with_len 0 n) ++ l) (append-nil (f n))))

-- ---- what it is

passing_split : (test : ℕ → Bool) (n : ℕ) → passing test (suc n) ≡ passing test n ++ filter test (n ∷ [])
passing_split test n =
    let e : 0 + n ≡ n = omega arith in
    ap (filter test) (range_longer 0 n ∙ ap (λ m. range_with_len 0 n ++ m ∷ []) e) ∙ filter-append test (range_with_len 0 n) (n ∷ [])

module _ {X : Type 0} (f : ℕ → X) (test : ℕ → Bool) where
  split : (n : ℕ) → map f (passing test (suc n)) ≡ map f (passing test n) ++ map f (filter test (n ∷ []))
  split n = ap (map f) (passing_split test n) ∙ map-append f (passing test n) (filter test (n ∷ []))

  last_all : (P : X → Type 0) (n : ℕ) → (test n ≡ true → P (f n)) → All P (map f (filter test (n ∷ [])))
  last_all P n each =
      ⊎_elim
      (λ (t : test n ≡ true). subst (λ l. All P (map f l)) (sym (cond-true (test n) (n ∷ []) [] t)) (All-cons P (f n) [] (each t) (All-nil P)))
      (λ (e : test n ≡ false). subst (λ l. All P (map f l)) (sym (cond-false (test n) (n ∷ []) [] e)) (All-nil P))
      (cases_Bool (test n))

  -- what holds of each number that passes holds of all that is listed of them
  pub all_passing : (P : X → Type 0) (n : ℕ) → ((j : ℕ) → j < n → test j ≡ true → P (f j)) → All P (map f (passing test n))
  all_passing P zero each = All-nil P
  all_passing P (suc n) each =
      subst (λ l. All P l) (sym (split n))
      (All-append P (map f (passing test n)) (map f (filter test (n ∷ []))) (all_passing P n (λ j l t. each j (omega arith) t)) (last_all P n (each n (omega arith))))

  last_told : (n : ℕ) → test n ≡ true → Contains (map f (filter test (n ∷ []))) (f n)
  last_told n t = subst (λ l. Contains (map f l) (f n)) (sym (cond-true (test n) (n ∷ []) [] t)) (0, omega arith, refl)

  -- each number that passes is listed
  pub passing_told : (n j : ℕ) → j < n → test j ≡ true → Contains (map f (passing test n)) (f j)
  passing_told zero j l t = absurd (omega arith)
  passing_told (suc n) j l t =
      subst (λ l. Contains l (f j)) (sym (split n))
      (⊎_elim
      (λ (e : j ≡ n). Contains-append_right (map f (passing test n)) (map f (filter test (n ∷ []))) (f j)
      (rw e (last_told n (rw e at t))))
      (λ (ne : j ≡ n → ⊥). Contains-append_left (map f (passing test n)) (map f (filter test (n ∷ []))) (f j) (passing_told n j (omega arith) t))
      (cases_eq j n))

  -- the same of the elements of a list
  pub all_filtered : (P : X → Type 0) (xs : List ℕ) → ((x : ℕ) → test x ≡ true → P (f x)) → All P (map f (filter test xs))
  all_filtered P [] each = All-nil P
  all_filtered P (x ∷ xs) each =
      ⊎_elim
      (λ (t : test x ≡ true). subst (λ l. All P (map f l)) (sym (cond-true (test x) (x ∷ filter test xs) (filter test xs) t)) (All-cons P (f x) (map f (filter test xs)) (each x t) (all_filtered P xs each)))
      (λ (e : test x ≡ false). subst (λ l. All P (map f l)) (sym (cond-false (test x) (x ∷ filter test xs) (filter test xs) e)) (all_filtered P xs each))
      (cases_Bool (test x))

  cons_told : (y x : ℕ) (xs : List ℕ) → Contains (map f (filter test xs)) (f x) → Contains (map f (filter test (y ∷ xs))) (f x)
  cons_told y x xs told =
      ⊎_elim
      (λ (t : test y ≡ true). subst (λ l. Contains (map f l) (f x)) (sym (cond-true (test y) (y ∷ filter test xs) (filter test xs) t)) (Contains-append_right (f y ∷ []) (map f (filter test xs)) (f x) told))
      (λ (e : test y ≡ false). subst (λ l. Contains (map f l) (f x)) (sym (cond-false (test y) (y ∷ filter test xs) (filter test xs) e)) told)
      (cases_Bool (test y))

  pub filtered_told : (xs : List ℕ) (k : ℕ) (x : ℕ) → k < length xs → get_or xs k x ≡ x → test x ≡ true → Contains (map f (filter test xs)) (f x)
  filtered_told [] k x inside is t = absurd (omega arith)
  filtered_told (y ∷ xs) zero x inside is t =
      let same : test y ≡ true = rw is t in
      subst (λ l. Contains (map f l) (f x)) (sym (cond-true (test y) (y ∷ filter test xs) (filter test xs) same)) (0, omega arith, ap f is)
  filtered_told (y ∷ xs) (suc k) x inside is t = cons_told y x xs (filtered_told xs k x (omega arith) is t)

module _ {X : Type 0} (f : ℕ → List X) where
  lists_split : (n : ℕ) → flat_map f (range_with_len 0 (suc n)) ≡ flat_map f (range_with_len 0 n) ++ f n
  lists_split n =
      let e : 0 + n ≡ n = omega arith in
      ap (flat_map f) (range_longer 0 n ∙ ap (λ m. range_with_len 0 n ++ m ∷ []) e)
      ∙ flat_map-append f (range_with_len 0 n) (n ∷ []) ∙ ap (λ l. flat_map f (range_with_len 0 n) ++ l) (append-nil (f n))

  -- what holds of each list's elements, and what is in a list
  pub all_lists : (P : X → Type 0) (n : ℕ) → ((i : ℕ) → i < n → All P (f i)) → All P (flat_map f (range_with_len 0 n))
  all_lists P zero each = All-nil P
  all_lists P (suc n) each =
      subst (λ l. All P l) (sym (lists_split n))
      (All-append P (flat_map f (range_with_len 0 n)) (f n) (all_lists P n (λ i l. each i (omega arith))) (each n (omega arith)))

  pub list_in : (n i : ℕ) (x : X) → i < n → Contains (f i) x → Contains (flat_map f (range_with_len 0 n)) x
  list_in zero i x l has = absurd (omega arith)
  list_in (suc n) i x l has =
      subst (λ l. Contains l x) (sym (lists_split n))
      (⊎_elim
      (λ (e : i ≡ n). Contains-append_right (flat_map f (range_with_len 0 n)) (f n) x (rw e at has))
      (λ (ne : i ≡ n → ⊥). Contains-append_left (flat_map f (range_with_len 0 n)) (f n) x (list_in n i x (omega arith) has))
      (cases_eq i n))
