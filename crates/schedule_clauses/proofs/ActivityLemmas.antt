-- Sums over sets of activities.
use Rattle.std.proofs.Common.{◌≡◌, ℕ, zero, suc, ◌+◌, ◌/◌, ◌%◌, ◌<◌, ◌≤◌, ◌==◌, Bool, true, false, cond, List, get_or, length, arith, refl, sym, ap, ⊎_elim}
use Rattle.std.specs.Int.Bits.{bit_and}
use Rattle.std.specs.Int.{bit_at}
use Rattle.std.proofs.lemmas.Bool.{cases_Bool, cases_lt, eqb-true}
use Rattle.std.proofs.lemmas.List.{get_or_past}
use Rattle.std.proofs.lemmas.Nat.Bits.{bit_at_and, bit_at-lt, bit_at-zero}
use Rattle.mrcpsp.specs.Numbers.{sum_below}
use Rattle.mrcpsp.proofs.NumbersLemmas.{sum_below-le, at-le-sum_below}
use Rattle.schedule_clauses.specs.Activities.{is_among, sum_among, IsPart}

here : (f : ℕ → ℕ) (part whole : List ℕ) (j : ℕ) → IsPart part whole → cond (is_among part j) (f j) 0 ≤ cond (is_among whole j) (f j) 0
here f part whole j h =
    ⊎_elim
    (λ (e : is_among part j ≡ true). rw (e, h.each j e) (omega arith))
    (λ (e : is_among part j ≡ false). rw e (omega arith))
    (cases_Bool (is_among part j))

-- a part has no more
pub part-le : (f : ℕ → ℕ) (part whole : List ℕ) (n : ℕ) → IsPart part whole → sum_among f part n ≤ sum_among f whole n
part-le f part whole n h = sum_below-le (λ j. cond (is_among part j) (f j) 0) (λ j. cond (is_among whole j) (f j) 0) n (λ j l. here f part whole j h)

below : (b : Bool) (x : ℕ) → cond b x 0 ≤ x
below true x = omega arith
below false x = omega arith

pub all-le : (f : ℕ → ℕ) (activities : List ℕ) (n : ℕ) → sum_among f activities n ≤ sum_below f n
all-le f activities n = sum_below-le (λ j. cond (is_among activities j) (f j) 0) f n (λ j l. below (is_among activities j) (f j))

pub one-le : (f : ℕ → ℕ) (activities : List ℕ) (n j : ℕ) → j < n → is_among activities j ≡ true → f j ≤ sum_among f activities n
one-le f activities n j l e =
    let g : cond (is_among activities j) (f j) 0 ≤ sum_among f activities n = at-le-sum_below (λ i. cond (is_among activities i) (f i) 0) n j l in
    let h : cond (is_among activities j) (f j) 0 ≡ f j = rw e refl in omega (arith, g, h)

-- a part without activity j leaves room for it
pub part-and-one : (f : ℕ → ℕ) (part whole : List ℕ) (n j : ℕ) → IsPart part whole → j < n → is_among whole j ≡ true → is_among part j ≡ false → sum_among f part n + f j ≤ sum_among f whole n
part-and-one f part whole zero j h l a b = absurd (omega arith)
part-and-one f part whole (suc n) j h l a b =
    ⊎_elim
    (λ (less : j < n).
    let g : sum_among f part n + f j ≤ sum_among f whole n = part-and-one f part whole n j h less a b in
    let k = here f part whole n h in omega (arith, g, k))
    (λ (last : n ≤ j).
    let e : n ≡ j = omega arith in
    let g = part-le f part whole n h in
    let x : cond (is_among part n) (f n) 0 ≡ 0 = rw (e, b) refl in
    let y : cond (is_among whole n) (f n) 0 ≡ f j = rw (e, a) refl in omega (arith, g, x, y))
    (cases_lt j n)

-- a bit of a word that shares all its bits with another is a bit of that one
shared : (a b i : ℕ) → bit_and a b ≡ a → (bit_at a i == 1) ≡ true → (bit_at b i == 1) ≡ true
shared a b i h e =
    let x : bit_at a i ≡ 1 = eqb-true (bit_at a i) 1 e in
    let y : bit_at (bit_and a b) i ≡ bit_at a i = ap (λ w. bit_at w i) h in
    let z = bit_at_and a b i in
    let l = bit_at-lt b i in
    let one : bit_at b i ≡ 1 = omega (arith, x, y, z, l) in rw one refl

none : (i : ℕ) → (bit_at 0 i == 1) ≡ true → ⊥
none i e = let x : bit_at 0 i ≡ 1 = eqb-true (bit_at 0 i) 1 e in let z = bit_at-zero i in omega (arith, x, z)

-- so sets are compared word by word
pub is-part : (part whole : List ℕ) → length part ≡ 4 → ((k : ℕ) → k < 4 → bit_and (get_or part k 0) (get_or whole k 0) ≡ get_or part k 0) → IsPart part whole
unfolding is_among
is-part part whole long h = record {
  each = λ j e.
      ⊎_elim
      (λ (l : j / 64 < 4). shared (get_or part (j / 64) 0) (get_or whole (j / 64) 0) (j % 64) (h (j / 64) l) e)
      (λ (l : 4 ≤ j / 64). absurd (none (j % 64) (rw (sym (get_or_past part (j / 64) 0 (omega (arith, long, l)))) e)))
      (cases_lt (j / 64) 4);
}

pub ruleset part_rules = (is-part)
