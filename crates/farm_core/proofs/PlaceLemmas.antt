-- The numbers that pass a test, and their places; and the first that passes.
use Rattle.std.proofs.Common.{◌≡◌, ◌≢◌, ℕ, zero, suc, ◌+◌, ◌-◌, ◌<◌, ◌≤◌, Bool, true, false, cond, List, [], ◌∷◌, length, map, filter, get_or, set, refl, sym, ap, ◌∙◌, subst, arith}
use Rattle.std.specs.List.{range_with_len}
use Rattle.std.proofs.lemmas.Bool.{cond_both}
use Rattle.mrcpsp.specs.Numbers.{first_from}

-- one that passes is found at its place,
first_hit : (a d : ℕ) (xs : List ℕ) (b : Bool) → b ≡ true → get_or (cond b (a ∷ xs) xs) 0 d ≡ a
first_hit a d xs true h = refl
first_hit a d xs false h = absurd (cc)

later_hit : (a d : ℕ) (xs ys : List ℕ) (b : Bool) → get_or (cond b (a ∷ xs) xs) (length (cond b (a ∷ ys) ys)) d ≡ get_or xs (length ys) d
later_hit a d xs ys true = refl
later_hit a d xs ys false = refl

pub at_place : (f : ℕ → Bool) (a n k d : ℕ) → k < n → f (a + k) ≡ true → get_or (filter f (range_with_len a n)) (length (filter f (range_with_len a k))) d ≡ a + k
at_place f a zero k d l h = absurd (omega arith)
at_place f a (suc n) zero d l h =
    let same : a + 0 ≡ a = omega arith in
    first_hit a d (filter f (range_with_len (a + 1) n)) (f a) (ap f (sym same) ∙ h) ∙ sym same
at_place f a (suc n) (suc k) d l h =
    let same : a + suc k ≡ a + 1 + k = omega arith in
    later_hit a d (filter f (range_with_len (a + 1) n)) (filter f (range_with_len (a + 1) k)) (f a)
    ∙ at_place f (a + 1) n k d (omega arith) (ap f (sym same) ∙ h) ∙ sym same

-- which is one of the list's,
here_in : (a : ℕ) (xs : List ℕ) (b : Bool) → b ≡ true → 0 < length (cond b (a ∷ xs) xs)
here_in a xs true h = omega arith
here_in a xs false h = absurd (cc)

later_in : (a : ℕ) (xs ys : List ℕ) (b : Bool) → length ys < length xs → length (cond b (a ∷ ys) ys) < length (cond b (a ∷ xs) xs)
later_in a xs ys true l = omega arith
later_in a xs ys false l = l

pub in_place : (f : ℕ → Bool) (a n k : ℕ) → k < n → f (a + k) ≡ true → length (filter f (range_with_len a k)) < length (filter f (range_with_len a n))
in_place f a zero k l h = absurd (omega arith)
in_place f a (suc n) zero l h =
    let same : a + 0 ≡ a = omega arith in
    here_in a (filter f (range_with_len (a + 1) n)) (f a) (ap f (sym same) ∙ h)
in_place f a (suc n) (suc k) l h =
    let same : a + suc k ≡ a + 1 + k = omega arith in
    later_in a (filter f (range_with_len (a + 1) n)) (filter f (range_with_len (a + 1) k)) (f a) (in_place f (a + 1) n k (omega arith) (ap f (sym same) ∙ h))

-- and where it alone is told otherwise, its place alone changes
pub same_among : {X : Type 0} (f : ℕ → Bool) (g h : ℕ → X) (xs : List ℕ) → ((u : ℕ) → f u ≡ true → h u ≡ g u) → map h (filter f xs) ≡ map g (filter f xs)
same_among f g h [] same = refl
same_among {X} f g h (x ∷ xs) same = by (same_among f g h xs same) (f x) refl
  where
    by : map h (filter f xs) ≡ map g (filter f xs) → (b : Bool) → f x ≡ b → map h (cond b (x ∷ filter f xs) (filter f xs)) ≡ map g (cond b (x ∷ filter f xs) (filter f xs))
    by rest true passes = ap (λ (y : X). y ∷ map h (filter f xs)) (same x passes) ∙ ap (λ (ys : List X). g x ∷ ys) rest
    by rest false fails = rest

-- the same where only numbers below an end are known to be told alike
pub same_below : {X : Type 0} (f : ℕ → Bool) (g h : ℕ → X) (a n : ℕ) → ((u : ℕ) → u < a + n → f u ≡ true → h u ≡ g u) → map h (filter f (range_with_len a n)) ≡ map g (filter f (range_with_len a n))
same_below f g h a zero same = refl
same_below {X} f g h a (suc n) same = by (same_below f g h (a + 1) n (λ u l. same u (omega arith))) (f a) refl
  where
    by : map h (filter f (range_with_len (a + 1) n)) ≡ map g (filter f (range_with_len (a + 1) n)) → (b : Bool) → f a ≡ b
        → map h (cond b (a ∷ filter f (range_with_len (a + 1) n)) (filter f (range_with_len (a + 1) n)))
        ≡ map g (cond b (a ∷ filter f (range_with_len (a + 1) n)) (filter f (range_with_len (a + 1) n)))
    by rest true passes = ap (λ (y : X). y ∷ map h (filter f (range_with_len (a + 1) n))) (same a (omega arith) passes) ∙ ap (λ (ys : List X). g a ∷ ys) rest
    by rest false fails = rest

same_from : {X : Type 0} (f : ℕ → Bool) (g h : ℕ → X) (a n : ℕ) → ((u : ℕ) → a ≤ u → h u ≡ g u) → map h (filter f (range_with_len a n)) ≡ map g (filter f (range_with_len a n))
same_from f g h a zero same = refl
same_from {X} f g h a (suc n) same = by (same_from f g h (a + 1) n (λ u l. same u (omega arith))) (f a)
  where
    by : map h (filter f (range_with_len (a + 1) n)) ≡ map g (filter f (range_with_len (a + 1) n)) → (b : Bool)
        → map h (cond b (a ∷ filter f (range_with_len (a + 1) n)) (filter f (range_with_len (a + 1) n)))
        ≡ map g (cond b (a ∷ filter f (range_with_len (a + 1) n)) (filter f (range_with_len (a + 1) n)))
    by rest true = ap (λ (y : X). y ∷ map h (filter f (range_with_len (a + 1) n))) (same a (omega arith)) ∙ ap (λ (ys : List X). g a ∷ ys) rest
    by rest false = rest

pub put_place : {X : Type 0} (f : ℕ → Bool) (g h : ℕ → X) (a n k : ℕ) → k < n → f (a + k) ≡ true → ((u : ℕ) → u ≢ a + k → h u ≡ g u)
    → map h (filter f (range_with_len a n)) ≡ set (map g (filter f (range_with_len a n))) (length (filter f (range_with_len a k))) (h (a + k))
put_place f g h a zero k l hit same = absurd (omega arith)
put_place {X} f g h a (suc n) zero l hit same =
    let at : a + 0 ≡ a = omega arith in
    subst (λ (b : ℕ). map h (filter f (range_with_len a (suc n))) ≡ set (map g (filter f (range_with_len a (suc n)))) 0 (h b)) (sym at) (by (f a) (ap f (sym at) ∙ hit))
  where
    by : (b : Bool) → b ≡ true → map h (cond b (a ∷ filter f (range_with_len (a + 1) n)) (filter f (range_with_len (a + 1) n)))
        ≡ set (map g (cond b (a ∷ filter f (range_with_len (a + 1) n)) (filter f (range_with_len (a + 1) n)))) 0 (h a)
    by true e = ap (λ (ys : List X). h a ∷ ys) (same_from f g h (a + 1) n (λ u l. same u (omega arith)))
    by false e = absurd (cc)
put_place {X} f g h a (suc n) (suc k) l hit same =
    let at : a + suc k ≡ a + 1 + k = omega arith in
    by (put_place f g h (a + 1) n k (omega arith) (ap f (sym at) ∙ hit) (λ u ne. same u (λ e. ne (e ∙ at)))
    ∙ ap (λ (m : ℕ). set (map g (filter f (range_with_len (a + 1) n))) (length (filter f (range_with_len (a + 1) k))) (h m)) (sym at)) (f a)
  where
    by : map h (filter f (range_with_len (a + 1) n)) ≡ set (map g (filter f (range_with_len (a + 1) n))) (length (filter f (range_with_len (a + 1) k))) (h (a + suc k))
        → (b : Bool) → map h (cond b (a ∷ filter f (range_with_len (a + 1) n)) (filter f (range_with_len (a + 1) n)))
        ≡ set (map g (cond b (a ∷ filter f (range_with_len (a + 1) n)) (filter f (range_with_len (a + 1) n)))) (length (cond b (a ∷ filter f (range_with_len (a + 1) k)) (filter f (range_with_len (a + 1) k)))) (h (a + suc k))
    by rest true = ap (λ (y : X). y ∷ map h (filter f (range_with_len (a + 1) n))) (same a (omega arith)) ∙ ap (λ (ys : List X). g a ∷ ys) rest
    by rest false = rest

-- the number at a place passes, and is there
pub record IsNth (f : ℕ → Bool) (a n p x : ℕ) : Type 0 where
  pub passes : f x ≡ true
  pub least : a ≤ x
  pub below : x < a + n
  pub place : length (filter f (range_with_len a (x - a))) ≡ p

nth_later : (f : ℕ → Bool) (a n p x : ℕ) (b : Bool) → f a ≡ b → IsNth f (a + 1) n p x → IsNth f a (suc n) (cond b (suc p) p) x
nth_later f a n p x b is it =
    let more : x - a ≡ suc (x - (a + 1)) = omega (arith, it.least) in
    record {
      passes = it.passes;
      least = omega (arith, it.least);
      below = omega (arith, it.below);
      place = ap (λ k. length (filter f (range_with_len a k))) more ∙ by b is it.place;
    }
  where
    by : (c : Bool) → f a ≡ c → length (filter f (range_with_len (a + 1) (x - (a + 1)))) ≡ p
        → length (cond (f a) (a ∷ filter f (range_with_len (a + 1) (x - (a + 1)))) (filter f (range_with_len (a + 1) (x - (a + 1))))) ≡ cond c (suc p) p
    by true e rest = ap (λ c. length (cond c (a ∷ filter f (range_with_len (a + 1) (x - (a + 1)))) (filter f (range_with_len (a + 1) (x - (a + 1)))))) e ∙ ap suc rest
    by false e rest = ap (λ c. length (cond c (a ∷ filter f (range_with_len (a + 1) (x - (a + 1)))) (filter f (range_with_len (a + 1) (x - (a + 1)))))) e ∙ rest

pub nth_of : (f : ℕ → Bool) (a n p d : ℕ) → p < length (filter f (range_with_len a n)) → IsNth f a n p (get_or (filter f (range_with_len a n)) p d)
nth_of f a zero p d l = absurd (omega arith)
nth_of f a (suc n) p d l = by (λ k m. nth_of f (a + 1) n k d m) (f a) refl p l
  where
    by : ((k : ℕ) → k < length (filter f (range_with_len (a + 1) n)) → IsNth f (a + 1) n k (get_or (filter f (range_with_len (a + 1) n)) k d)) → (b : Bool) → f a ≡ b
        → (k : ℕ) → k < length (cond b (a ∷ filter f (range_with_len (a + 1) n)) (filter f (range_with_len (a + 1) n)))
        → IsNth f a (suc n) k (get_or (cond b (a ∷ filter f (range_with_len (a + 1) n)) (filter f (range_with_len (a + 1) n))) k d)
    by rest true is zero m =
        let none : a - a ≡ 0 = omega arith in
        record { passes = is; least = omega arith; below = omega arith; place = ap (λ k. length (filter f (range_with_len a k))) none }
    by rest true is (suc k) m = nth_later f a n k (get_or (filter f (range_with_len (a + 1) n)) k d) true is (rest k (omega arith))
    by rest false is k m = nth_later f a n k (get_or (filter f (range_with_len (a + 1) n)) k d) false is (rest k m)

-- two tests that agree pass the same numbers
pub same_tests : {X : Type 0} (f g : X → Bool) (xs : List X) → ((u : X) → f u ≡ g u) → filter f xs ≡ filter g xs
same_tests f g [] same = refl
same_tests {X} f g (x ∷ xs) same =
    ap (λ (b : Bool). cond b (x ∷ filter f xs) (filter f xs)) (same x) ∙ ap (λ (ys : List X). cond (g x) (x ∷ ys) ys) (same_tests f g xs same)

-- all pass, one passes
pub all_pass : (f : ℕ → Bool) (a n : ℕ) → ((u : ℕ) → f u ≡ true) → length (filter f (range_with_len a n)) ≡ n
all_pass f a zero hit = refl
all_pass f a (suc n) hit =
    ap (λ (b : Bool). length (cond b (a ∷ filter f (range_with_len (a + 1) n)) (filter f (range_with_len (a + 1) n)))) (hit a) ∙ ap suc (all_pass f (a + 1) n hit)

pub none_pass : (f : ℕ → Bool) (a n : ℕ) → ((u : ℕ) → a ≤ u → u < a + n → f u ≡ false) → filter f (range_with_len a n) ≡ []
none_pass f a zero miss = refl
none_pass f a (suc n) miss =
    ap (λ (b : Bool). cond b (a ∷ filter f (range_with_len (a + 1) n)) (filter f (range_with_len (a + 1) n))) (miss a (omega arith) (omega arith)) ∙ none_pass f (a + 1) n (λ u l m. miss u (omega arith) (omega arith))

pub one_passes : (f : ℕ → Bool) (a n k : ℕ) → k < n → f (a + k) ≡ true → ((u : ℕ) → u ≢ a + k → f u ≡ false) → filter f (range_with_len a n) ≡ (a + k) ∷ []
one_passes f a zero k l hit miss = absurd (omega arith)
one_passes f a (suc n) zero l hit miss =
    let at : a + 0 ≡ a = omega arith in
    ap (λ (b : Bool). cond b (a ∷ filter f (range_with_len (a + 1) n)) (filter f (range_with_len (a + 1) n))) (ap f (sym at) ∙ hit)
    ∙ ap (λ (xs : List ℕ). a ∷ xs) (none_pass f (a + 1) n (λ u l m. miss u (omega arith))) ∙ ap (λ (b : ℕ). b ∷ []) (sym at)
one_passes f a (suc n) (suc k) l hit miss =
    let at : a + suc k ≡ a + 1 + k = omega arith in
    ap (λ (b : Bool). cond b (a ∷ filter f (range_with_len (a + 1) n)) (filter f (range_with_len (a + 1) n))) (miss a (omega arith))
    ∙ one_passes f (a + 1) n k (omega arith) (ap f (sym at) ∙ hit) (λ u ne. miss u (λ e. ne (e ∙ at))) ∙ ap (λ (b : ℕ). b ∷ []) (sym at)

pub first_from-most : (test : ℕ → Bool) (k t : ℕ) → first_from test k t ≤ t + k
first_from-most test zero t = omega arith
first_from-most test (suc k) t = cond_both (test t) t (first_from test k (t + 1)) (λ x. x ≤ t + suc k) (λ _. omega arith) (λ _. omega (arith, first_from-most test k (t + 1)))
