-- Members of sets of bits, by rising number, and sums over them.
use Rattle.std.proofs.Common.{◌≡◌, ℕ, zero, suc, ◌+◌, ◌-◌, ◌*◌, ◌/◌, ◌%◌, ◌^◌, ◌<◌, ◌≤◌, ◌==◌, Bool, true, false, cond, max, min, List, [], ◌∷◌, ◌++◌, length, get_or, map, filter, All, sum_by, w64, arith, refl, sym, ap, ◌∙◌, subst, ⊎_elim}
use Rattle.std.specs.Int.{bit_at, trailing_zeros}
use lib.Bits.{bit_and}
use Rattle.std.specs.List.{range_with_len}
use Rattle.std.proofs.lemmas.Bool.{cases_lt, cases_eq, cases_Bool, cond-true, cond-false, eq-eqb}
use Rattle.std.proofs.lemmas.Nat.{and_le_r, pow_pos}
use Rattle.std.proofs.lemmas.Nat.Bits.{bit_at-suc, bit_at_lowest, bit_at-zero, bit_at-trailing_zeros, bit_at_and, bit_at_cat_low, bit_at_cat_high, same_from_bits_below}
use Rattle.std.proofs.lemmas.List.Elements.{All-nil, All-cons}
use Rattle.std.proofs.lemmas.List.Sums.{sum_by-cons}
use Rattle.mrcpsp.specs.Numbers.{largest}
use Rattle.serial_sgs.specs.Members.{has}
use Rattle.serial_pass.specs.Eligible.{IsLowest, from_word, in_word, picked}

-- ---- the lowest bit

pub lowest : (n : ℕ) → 0 < n → n < 2 ^ 64 → IsLowest n (trailing_zeros w64 n) (bit_and n (n - 1))
lowest n some wide =
    let t : ℕ = trailing_zeros w64 n in
    let found = bit_at-trailing_zeros w64 n some wide in
    let a : ℕ = n / 2 ^ t in
    let b : ℕ = a - 1 in
    let odd : a % 2 ≡ 1 = found.1 in
    let parts : n ≡ a * 2 ^ t + n % 2 ^ t = omega (arith, pow_pos t) in
    let low : n % 2 ^ t ≡ 0 = same_from_bits_below t (n % 2 ^ t) 0 (omega (arith, pow_pos t)) (pow_pos t) (λ i l. sym (bit_at_cat_low a t (n % 2 ^ t) i l) ∙ ap (λ (x : ℕ). bit_at x i) (sym parts) ∙ found.2 i l ∙ sym (bit_at-zero i)) in
    let whole : n ≡ a * 2 ^ t + 0 = omega (arith, parts, low) in
    let one : a ≡ b + 1 = omega (arith, odd) in
    let grown : a * 2 ^ t ≡ (b + 1) * 2 ^ t = ap (λ (x : ℕ). x * 2 ^ t) one in
    let less : n - 1 ≡ b * 2 ^ t + (2 ^ t - 1) = omega (arith, whole, grown, pow_pos t) in
    let under : 2 ^ t - 1 < 2 ^ t = omega (arith, pow_pos t) in
    let high : (i : ℕ) → t ≤ i → bit_at n i ≡ bit_at a (i - t) = λ i l. ap (λ (x : ℕ). bit_at x i) whole ∙ bit_at_cat_high a t 0 i (pow_pos t) l in
    let high_less : (i : ℕ) → t ≤ i → bit_at (n - 1) i ≡ bit_at b (i - t) = λ i l. ap (λ (x : ℕ). bit_at x i) less ∙ bit_at_cat_high b t (2 ^ t - 1) i under l in
    record {
      below = found.0;
      own = found.1;
      none = found.2;
      gone =
          let zero_at : bit_at (n - 1) t ≡ 0 = high_less t (omega arith) ∙ ap (bit_at b) (none_left t) ∙ bit_at_lowest b ∙ omega (arith, odd, one) in
          small_min (bit_at n t) (bit_at (n - 1) t) zero_at (bit_at_and n (n - 1) t);
      others = λ i ne.
          ⊎_elim
          (λ (early : i < t). first_min (bit_at n i) (bit_at (n - 1) i) (found.2 i early) (bit_at_and n (n - 1) i))
          (λ (late : t ≤ i).
          let m : ℕ = i - t - 1 in
          let next : i - t ≡ suc m = omega (arith, late, ne) in
          let mine : bit_at a (i - t) ≡ bit_at (a / 2) m = ap (bit_at a) next ∙ bit_at-suc a m in
          let other : bit_at b (i - t) ≡ bit_at (b / 2) m = ap (bit_at b) next ∙ bit_at-suc b m in
          let half : b / 2 ≡ a / 2 = omega (arith, odd, one) in
          same_min (bit_at n i) (bit_at (n - 1) i) (high i late ∙ mine ∙ ap (λ (x : ℕ). bit_at x m) (sym half) ∙ sym other ∙ sym (high_less i late)) (bit_at_and n (n - 1) i))
          (cases_lt i t);
      less = omega (arith, and_le_r n (n - 1));
    }
  where
    none_left : (t : ℕ) → t - t ≡ 0
    none_left t = omega arith

    small_min : (x y : ℕ) {z : ℕ} → y ≡ 0 → z ≡ min x y → z ≡ 0
    small_min x y e is = omega (arith, e, is)

    first_min : (x y : ℕ) {z : ℕ} → x ≡ 0 → z ≡ min x y → z ≡ x
    first_min x y e is = omega (arith, e, is)

    same_min : (x y : ℕ) {z : ℕ} → x ≡ y → z ≡ min x y → z ≡ x
    same_min x y e is = omega (arith, e, is)

-- ---- the numbers that pass a test

pub picked_same : (f g : ℕ → Bool) (s n : ℕ) → ((j : ℕ) → s ≤ j → j < s + n → f j ≡ g j) → picked f s n ≡ picked g s n
unfolding picked
picked_same f g s zero h = refl
picked_same f g s (suc n) h =
    let rest : filter f (range_with_len (s + 1) n) ≡ filter g (range_with_len (s + 1) n) = picked_same f g (s + 1) n (λ j l m. h j (omega arith) (omega arith)) in
    ap (λ b. cond b (s ∷ filter f (range_with_len (s + 1) n)) (filter f (range_with_len (s + 1) n))) (h s (omega arith) (omega arith)) ∙ ap (λ xs. cond (g s) (s ∷ xs) xs) rest

-- the first number passes, or does not
pub picked_head : (f : ℕ → Bool) (s n : ℕ) → f s ≡ true → picked f s (suc n) ≡ s ∷ picked f (s + 1) n
unfolding picked
picked_head f s n e = cond-true (f s) (s ∷ filter f (range_with_len (s + 1) n)) (filter f (range_with_len (s + 1) n)) e

pub picked_skip : (f : ℕ → Bool) (s n : ℕ) → f s ≡ false → picked f s (suc n) ≡ picked f (s + 1) n
unfolding picked
picked_skip f s n e = cond-false (f s) (s ∷ filter f (range_with_len (s + 1) n)) (filter f (range_with_len (s + 1) n)) e

pub picked_zero : (f : ℕ → Bool) (s : ℕ) → picked f s 0 ≡ []
unfolding picked
picked_zero f s = refl

pub picked_none : (f : ℕ → Bool) (s n : ℕ) → ((j : ℕ) → s ≤ j → j < s + n → f j ≡ false) → picked f s n ≡ []
picked_none f s zero h = picked_zero f s
picked_none f s (suc n) h = picked_skip f s n (h s (omega arith) (omega arith)) ∙ picked_none f (s + 1) n (λ j l m. h j (omega arith) (omega arith))

pub picked_append : (f : ℕ → Bool) (s m n : ℕ) → picked f s (m + n) ≡ picked f s m ++ picked f (s + m) n
picked_append f s zero n =
    let none : 0 + n ≡ n = omega arith in
    let here : s + 0 ≡ s = omega arith in
    rw (none, here, picked_zero f s) refl
picked_append f s (suc m) n =
    let more : suc m + n ≡ suc (m + n) = omega arith in
    let on : s + suc m ≡ s + 1 + m = omega arith in
    ⊎_elim
    (λ (yes : f s ≡ true). rw (more, on, picked_head f s (m + n) yes, picked_head f s m yes, picked_append f (s + 1) m n) refl)
    (λ (no_one : f s ≡ false). rw (more, on, picked_skip f s (m + n) no_one, picked_skip f s m no_one) (picked_append f (s + 1) m n))
    (cases_Bool (f s))

-- the first one that passes, and the others
pub picked_first : (f g : ℕ → Bool) (s n t : ℕ) → s ≤ t → t < s + n → f t ≡ true → ((j : ℕ) → s ≤ j → j < t → f j ≡ false) → g t ≡ false → ((j : ℕ) → s ≤ j → j < s + n → (j ≡ t → ⊥) → g j ≡ f j) → picked f s n ≡ t ∷ picked g s n
picked_first f g s zero t above below pass before gone rest = absurd (omega arith)
picked_first f g s (suc n) t above below pass before gone rest =
    ⊎_elim
    (λ (e : s ≡ t).
    let mine : f s ≡ true = ap f e ∙ pass in
    let left : g s ≡ false = ap g e ∙ gone in
    picked_head f s n mine ∙ ap (λ (x : ℕ). x ∷ picked f (s + 1) n) e
    ∙ ap (λ xs. t ∷ xs) (picked_same f g (s + 1) n (λ j l m. sym (rest j (omega arith) (omega arith) (omega (arith, e)))) ∙ sym (picked_skip g s n left)))
    (λ (ne : s ≡ t → ⊥).
    let none : f s ≡ false = before s (omega arith) (omega arith) in
    let too : g s ≡ false = rest s (omega arith) (omega arith) ne ∙ none in
    picked_skip f s n none ∙ picked_first f g (s + 1) n t (omega arith) (omega arith) pass (λ j l m. before j (omega arith) m) gone (λ j l m other. rest j (omega arith) (omega arith) other) ∙ ap (λ xs. t ∷ xs) (sym (picked_skip g s n too)))
    (cases_eq s t)

-- with one number more: how many, their sum and the greatest
pub record IsOneMore (v : ℕ → ℕ) (a : ℕ) (less more : List ℕ) : Type 0 where
  pub count : length more ≡ length less + 1
  pub sum : sum_by v more ≡ sum_by v less + v a
  pub greatest : largest (map v more) ≡ max (largest (map v less)) (v a)

pub one_more : (v : ℕ → ℕ) (f g : ℕ → Bool) (s n a : ℕ) → s ≤ a → a < s + n → f a ≡ false → g a ≡ true → ((j : ℕ) → (j ≡ a → ⊥) → g j ≡ f j) → IsOneMore v a (picked f s n) (picked g s n)
one_more v f g s zero a above below none own rest = absurd (omega arith)
one_more v f g s (suc n) a above below none own rest =
    ⊎_elim
    (λ (e : s ≡ a).
    let same : picked f (s + 1) n ≡ picked g (s + 1) n = picked_same f g (s + 1) n (λ j l m. sym (rest j (omega (arith, e)))) in
    rw (picked_head g s n (ap g e ∙ own), picked_skip f s n (ap f e ∙ none), same)
    (let at : v s ≡ v a = ap v e in record {
      count = omega arith;
      sum = omega (arith, sum_by-cons v s (picked g (s + 1) n), at);
      greatest = omega (arith, at);
    }))
    (λ (ne : s ≡ a → ⊥).
    let later = one_more v f g (s + 1) n a (omega arith) (omega arith) none own rest in
    ⊎_elim
    (λ (yes : f s ≡ true).
    rw (picked_head g s n (rest s ne ∙ yes), picked_head f s n yes)
    (record {
      count = omega (arith, later.count);
      sum = omega (arith, sum_by-cons v s (picked g (s + 1) n), sum_by-cons v s (picked f (s + 1) n), later.sum);
      greatest = omega (arith, later.greatest);
    }))
    (λ (no_one : f s ≡ false). rw (picked_skip g s n (rest s ne ∙ no_one), picked_skip f s n no_one) later)
    (cases_Bool (f s)))
    (cases_eq s a)

pub picked_few : (f : ℕ → Bool) (s n : ℕ) → length (picked f s n) ≤ n
picked_few f s zero = rw (picked_zero f s) (omega arith)
picked_few f s (suc n) =
    ⊎_elim
    (λ (yes : f s ≡ true). rw (picked_head f s n yes) (omega (arith, picked_few f (s + 1) n)))
    (λ (no_one : f s ≡ false). rw (picked_skip f s n no_one) (omega (arith, picked_few f (s + 1) n)))
    (cases_Bool (f s))

pub sum_small : (v : ℕ → ℕ) (m : ℕ) (xs : List ℕ) → ((j : ℕ) → v j ≤ m) → sum_by v xs ≤ length xs * m
sum_small v m [] h = omega arith
sum_small v m (x ∷ xs) h = omega (arith, sum_by-cons v x xs, sum_small v m xs h, h x)

pub picked_holds : (P : ℕ → Type 0) (f : ℕ → Bool) (s n : ℕ) → ((j : ℕ) → s ≤ j → j < s + n → f j ≡ true → P j) → All P (picked f s n)
picked_holds P f s zero h = subst (All P) (sym (picked_zero f s)) (All-nil P)
picked_holds P f s (suc n) h =
    let later : All P (picked f (s + 1) n) = picked_holds P f (s + 1) n (λ j l m e. h j (omega arith) (omega arith) e) in
    ⊎_elim
    (λ (yes : f s ≡ true). subst (All P) (sym (picked_head f s n yes)) (All-cons P s (picked f (s + 1) n) (h s (omega arith) (omega arith) yes) later))
    (λ (no_one : f s ≡ false). subst (All P) (sym (picked_skip f s n no_one)) later)
    (cases_Bool (f s))

-- ---- words

pub word_is : (words : List ℕ) (w : ℕ) → picked (has words) (w * 64) 64 ≡ in_word (get_or words w 0) w
unfolding in_word has
word_is words w =
    picked_same (has words) (λ j. bit_at (get_or words w 0) (j % 64) == 1) (w * 64) 64
    (λ j l m. let at : j / 64 ≡ w = omega arith in ap (λ (x : ℕ). bit_at (get_or words x 0) (j % 64) == 1) at)

pub words_next : (words : List ℕ) (w : ℕ) → w < 4 → from_word words w ≡ in_word (get_or words w 0) w ++ from_word words (w + 1)
unfolding from_word
words_next words w l =
    let size : (4 - w) * 64 ≡ 64 + (4 - (w + 1)) * 64 = omega arith in
    let next : w * 64 + 64 ≡ (w + 1) * 64 = omega arith in
    ap (picked (has words) (w * 64)) size ∙ picked_append (has words) (w * 64) 64 ((4 - (w + 1)) * 64)
    ∙ ap (λ xs. xs ++ picked (has words) (w * 64 + 64) ((4 - (w + 1)) * 64)) (word_is words w)
    ∙ ap (λ (x : ℕ). in_word (get_or words w 0) w ++ picked (has words) x ((4 - (w + 1)) * 64)) next

pub words_end : (words : List ℕ) → from_word words 4 ≡ []
unfolding from_word
words_end words = picked_zero (has words) 256

pub word_next : (bits w place rest : ℕ) → IsLowest bits place rest → in_word bits w ≡ (w * 64 + place) ∷ in_word rest w
unfolding in_word
word_next bits w place rest lowest =
    let at : (w * 64 + place) % 64 ≡ place = omega (arith, lowest.below) in
    picked_first (λ j. bit_at bits (j % 64) == 1) (λ j. bit_at rest (j % 64) == 1) (w * 64) 64 (w * 64 + place) (omega arith) (omega (arith, lowest.below))
    (eq-eqb (bit_at bits ((w * 64 + place) % 64)) 1 (ap (bit_at bits) at ∙ lowest.own))
    (λ j l m. let under : j % 64 < place = omega (arith, l, m, lowest.below) in ap (λ (b : ℕ). b == 1) (lowest.none (j % 64) under))
    (ap (λ (b : ℕ). b == 1) (ap (bit_at rest) at ∙ lowest.gone))
    (λ j l m ne. let other : j % 64 ≡ place → ⊥ = λ e. ne (omega (arith, e, l, m)) in ap (λ (b : ℕ). b == 1) (lowest.others (j % 64) other))

pub word_none : (w : ℕ) → in_word 0 w ≡ []
unfolding in_word
word_none w = picked_none (λ j. bit_at 0 (j % 64) == 1) (w * 64) 64 (λ j l m. ap (λ (b : ℕ). b == 1) (bit_at-zero (j % 64)))

-- the word and the bit of an activity
pub has_at : (words : List ℕ) (w i : ℕ) → i < 64 → has words (w * 64 + i) ≡ (bit_at (get_or words w 0) i == 1)
unfolding has
has_at words w i small =
    let word : (w * 64 + i) / 64 ≡ w = omega arith in
    let place : (w * 64 + i) % 64 ≡ i = omega arith in
    rw (word, place) refl

pub largest_append : (v : ℕ → ℕ) (xs ys : List ℕ) → largest (map v (xs ++ ys)) ≡ max (largest (map v xs)) (largest (map v ys))
largest_append v [] ys = omega arith
largest_append v (x ∷ xs) ys = omega (arith, largest_append v xs ys)

-- no member exceeds the greatest
pub picked_greatest : (v : ℕ → ℕ) (f : ℕ → Bool) (s n j : ℕ) → s ≤ j → j < s + n → f j ≡ true → v j ≤ largest (map v (picked f s n))
picked_greatest v f s zero j above below pass = absurd (omega arith)
picked_greatest v f s (suc n) j above below pass =
    ⊎_elim
    (λ (e : s ≡ j). rw (picked_head f s n (ap f e ∙ pass)) (omega (arith, ap v e)))
    (λ (ne : s ≡ j → ⊥).
    let later : v j ≤ largest (map v (picked f (s + 1) n)) = picked_greatest v f (s + 1) n j (omega arith) (omega arith) pass in
    ⊎_elim
    (λ (yes : f s ≡ true). rw (picked_head f s n yes) (omega (arith, later)))
    (λ (no_one : f s ≡ false). rw (picked_skip f s n no_one) later)
    (cases_Bool (f s)))
    (cases_eq s j)
