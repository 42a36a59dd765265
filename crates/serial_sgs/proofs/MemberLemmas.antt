-- Bits of words as members of a set.
use Rattle.std.proofs.Common.{◌≡◌, ℕ, ◌+◌, ◌-◌, ◌*◌, ◌/◌, ◌%◌, ◌^◌, ◌<◌, ◌≤◌, true, false, ◌==◌, List, [], ◌∷◌, Option, None, Some, MatchOption, length, get_or, set, arith, w64, refl, sym, ap, ◌∙◌, ⊎_elim}
use Rattle.std.specs.Prelude.{bit_and, bit_or}
use Rattle.std.proofs.lemmas.List.{get_or-set_same, get_or-set_other}
use Rattle.std.proofs.lemmas.Bool.{cases_lt, cases_eq, eq-eqb, ne_eqb}
use Rattle.std.proofs.lemmas.Nat.{shr-shr}
use Rattle.std.proofs.lemmas.Nat.Bits.{bit_at-trailing_zeros, bit_at-zero, bit_at_above, bit_at_set_same, bit_at_set_other, bit_at_clear_same, bit_at_clear_other, shr_and_one}
use Rattle.std.specs.Int.{bit_at, bit_not, trailing_zeros}
use Rattle.serial_sgs.specs.Members.{has, IsNext, IsOver}

-- the word and the bit of an activity
pub has_at : (words : List ℕ) (w i : ℕ) → i < 64 → has words (w * 64 + i) ≡ (bit_at (get_or words w 0) i == 1)
unfolding has
has_at words w i small =
    let word : (w * 64 + i) / 64 ≡ w = omega arith in
    let place : (w * 64 + i) % 64 ≡ i = omega arith in
    rw (word, place) refl

shifted : (word a d : ℕ) → bit_at (word / 2 ^ a) d ≡ bit_at word (a + d)
shifted word a d = ap (λ x. x % 2) (shr-shr word a d)

is_in_word : (words : List ℕ) (from d : ℕ) → from % 64 + d < 64 → has words (from + d) ≡ (bit_at (get_or words (from / 64) 0 / 2 ^ (from % 64)) d == 1)
unfolding has
is_in_word words from d small =
    let word : (from + d) / 64 ≡ from / 64 = omega arith in
    let place : (from + d) % 64 ≡ from % 64 + d = omega arith in
    rw (word, place, shifted (get_or words (from / 64) 0) (from % 64) d) refl

-- the lowest bit of what is left of a word
pub next_found : (words : List ℕ) (from rest : ℕ) → from < 256 → get_or words (from / 64) 0 < 2 ^ 64 → rest ≡ get_or words (from / 64) 0 / 2 ^ (from % 64) → 0 < rest → rest < 2 ^ 64 → IsNext words from (from + trailing_zeros w64 rest)
next_found words from rest small fits same some low =
    let word : ℕ = get_or words (from / 64) 0 in
    let d : ℕ = trailing_zeros w64 rest in
    let lowest = bit_at-trailing_zeros w64 rest some low in
    let bit : bit_at rest d ≡ 1 = lowest.1 in
    let there : bit_at word (from % 64 + d) ≡ 1 = sym (shifted word (from % 64) d) ∙ ap (λ x. bit_at x d) (sym same) ∙ bit in
    let inside : from % 64 + d < 64 =
    ⊎_elim
    (λ (l : from % 64 + d < 64). l)
    (λ (past : 64 ≤ from % 64 + d). absurd (omega (arith, bit_at_above word 64 (from % 64 + d) fits past, there)))
    (cases_lt (from % 64 + d) 64) in
    record {
      above = omega arith;
      below = omega arith;
      member = is_in_word words from d inside ∙ ap (λ x. bit_at x d == 1) (sym same) ∙ eq-eqb (bit_at rest d) 1 bit;
      first = λ i l h.
          let e : i ≡ from + (i - from) = omega arith in
          let none : bit_at rest (i - from) ≡ 0 = lowest.2 (i - from) (omega arith) in
          ap (has words) e ∙ is_in_word words from (i - from) (omega arith) ∙ ap (λ x. bit_at x (i - from) == 1) (sym same) ∙ ne_eqb (bit_at rest (i - from)) 1 (λ one. omega arith);
    }

-- nothing is left of a word
pub none_left : (words : List ℕ) (from : ℕ) → get_or words (from / 64) 0 / 2 ^ (from % 64) ≡ 0 → (i : ℕ) → from ≤ i → i < (from / 64 + 1) * 64 → has words i ≡ false
none_left words from none i l h =
    let e : i ≡ from + (i - from) = omega arith in
    let zero_bit : bit_at (get_or words (from / 64) 0 / 2 ^ (from % 64)) (i - from) ≡ 0 = ap (λ x. bit_at x (i - from)) none ∙ bit_at-zero (i - from) in
    ap (has words) e ∙ is_in_word words from (i - from) (omega arith) ∙ ne_eqb (bit_at (get_or words (from / 64) 0 / 2 ^ (from % 64)) (i - from)) 1 (λ one. omega arith)

-- ---- a bit that is set or cleared

put_word : (words : List ℕ) (a j new : ℕ) → a / 64 < length words → ((i : ℕ) → i < 64 → (i ≡ a % 64 → ⊥) → bit_at new i ≡ bit_at (get_or words (a / 64) 0) i) → (j ≡ a → ⊥) → has (set words (a / 64) new) j ≡ has words j
unfolding has
put_word words a j new inside same other =
    ⊎_elim
    (λ (here : j / 64 ≡ a / 64).
    rw (here, get_or-set_same words (a / 64) new 0 inside) (ap (λ x. x == 1) (same (j % 64) (omega arith) (λ e. other (omega arith)))))
    (λ (there : j / 64 ≡ a / 64 → ⊥). ap (λ x. bit_at x (j % 64) == 1) (get_or-set_other words (a / 64) (j / 64) new 0 there))
    (cases_eq (j / 64) (a / 64))

own_bit : (words : List ℕ) (a new : ℕ) → a / 64 < length words → has (set words (a / 64) new) a ≡ (bit_at new (a % 64) == 1)
unfolding has
own_bit words a new inside = ap (λ x. bit_at x (a % 64) == 1) (get_or-set_same words (a / 64) new 0 inside)

pub put_own : (words : List ℕ) (a : ℕ) → a / 64 < length words → has (set words (a / 64) (bit_or (get_or words (a / 64) 0) (1 * 2 ^ (a % 64) % 2 ^ 64))) a ≡ true
put_own words a inside = own_bit words a _ inside ∙ eq-eqb _ 1 (bit_at_set_same w64 (get_or words (a / 64) 0) (a % 64) (omega arith))

pub put_others : (words : List ℕ) (a j : ℕ) → a / 64 < length words → (j ≡ a → ⊥) → has (set words (a / 64) (bit_or (get_or words (a / 64) 0) (1 * 2 ^ (a % 64) % 2 ^ 64))) j ≡ has words j
put_others words a j inside other = put_word words a j _ inside (λ i small ne. bit_at_set_other w64 (get_or words (a / 64) 0) (a % 64) (omega arith) i ne) other

pub take_own : (words : List ℕ) (a : ℕ) → a / 64 < length words → has (set words (a / 64) (bit_and (get_or words (a / 64) 0) (bit_not w64 (1 * 2 ^ (a % 64) % 2 ^ 64)))) a ≡ false
take_own words a inside = own_bit words a _ inside ∙ ne_eqb _ 1 (λ one. omega (arith, bit_at_clear_same w64 (get_or words (a / 64) 0) (a % 64) (omega arith), one))

pub take_others : (words : List ℕ) (a j : ℕ) → a / 64 < length words → (j ≡ a → ⊥) → has (set words (a / 64) (bit_and (get_or words (a / 64) 0) (bit_not w64 (1 * 2 ^ (a % 64) % 2 ^ 64)))) j ≡ has words j
take_others words a j inside other = put_word words a j _ inside (λ i small ne. bit_at_clear_other w64 (get_or words (a / 64) 0) (a % 64) (omega arith) i small ne) other

-- what a shift and a mask read
pub read_bit : (words : List ℕ) (a : ℕ) → (bit_and (get_or words (a / 64) 0 / 2 ^ (a % 64)) 1 == 1) ≡ has words a
unfolding has
read_bit words a = ap (λ x. x == 1) (shr_and_one (get_or words (a / 64) 0) (a % 64))

-- ---- a whole word

whole : (words : List ℕ) (w : ℕ) → get_or words (w * 64 / 64) 0 / 2 ^ (w * 64 % 64) ≡ get_or words w 0
whole words w =
    let word : w * 64 / 64 ≡ w = omega arith in
    let place : w * 64 % 64 ≡ 0 = omega arith in
    rw (word, place) (shr_zero (get_or words w 0))
  where
    shr_zero : (n : ℕ) → n / 2 ^ 0 ≡ n
    shr_zero n = omega arith

pub word_over : (words : List ℕ) (w : ℕ) → get_or words w 0 ≡ 0 → (i : ℕ) → w * 64 ≤ i → i < (w + 1) * 64 → has words i ≡ false
word_over words w none i l h = none_left words (w * 64) (whole words w ∙ none) i l (omega arith)

pub word_found : (words : List ℕ) (first w : ℕ) → first ≤ w → w < 4 → 0 < get_or words w 0 → get_or words w 0 < 2 ^ 64 → ((i : ℕ) → first * 64 ≤ i → i < w * 64 → has words i ≡ false) → IsNext words (first * 64) (w * 64 + trailing_zeros w64 (get_or words w 0))
word_found words first w late inside some fits before =
    let word : w * 64 / 64 ≡ w = omega arith in
    let found : IsNext words (w * 64) (w * 64 + trailing_zeros w64 (get_or words w 0)) =
    next_found words (w * 64) (get_or words w 0) (omega arith) (rw word fits) (sym (whole words w)) some fits in
    record {
      above = omega (arith, found.above);
      below = found.below;
      member = found.member;
      first = λ i l h.
          ⊎_elim
          (λ (early : i < w * 64). before i l early)
          (λ (here : w * 64 ≤ i). found.first i here h)
          (cases_lt i (w * 64));
    }

-- the first of a later word, where nothing is left of this one
pub later_word : (words : List ℕ) (from end : ℕ) (found : Option ℕ) → get_or words (from / 64) 0 / 2 ^ (from % 64) ≡ 0 → MatchOption found (IsOver words ((from / 64 + 1) * 64) end) (IsNext words ((from / 64 + 1) * 64)) → MatchOption found (IsOver words from end) (IsNext words from)
later_word words from end None none over = λ i l h.
    ⊎_elim
    (λ (early : i < (from / 64 + 1) * 64). none_left words from none i l early)
    (λ (late : (from / 64 + 1) * 64 ≤ i). over i late h)
    (cases_lt i ((from / 64 + 1) * 64))
later_word words from end (Some j) none next = record {
  above = omega (arith, next.above);
  below = next.below;
  member = next.member;
  first = λ i l h.
      ⊎_elim
      (λ (early : i < (from / 64 + 1) * 64). none_left words from none i l early)
      (λ (late : (from / 64 + 1) * 64 ≤ i). next.first i late h)
      (cases_lt i ((from / 64 + 1) * 64));
}

pub empty_word : (j : ℕ) → j < 256 → has (0 ∷ 0 ∷ 0 ∷ 0 ∷ []) j ≡ false
empty_word j l =
    ⊎_elim (λ (a : j / 64 < 2). ⊎_elim (λ (b : j / 64 < 1). go 0 (omega arith) refl) (λ (b : 1 ≤ j / 64). go 1 (omega arith) refl) (cases_lt (j / 64) 1))
    (λ (a : 2 ≤ j / 64). ⊎_elim (λ (b : j / 64 < 3). go 2 (omega arith) refl) (λ (b : 3 ≤ j / 64). go 3 (omega arith) refl) (cases_lt (j / 64) 3))
    (cases_lt (j / 64) 2)
  where
    go : (w : ℕ) → j / 64 ≡ w → get_or {A = ℕ} (0 ∷ 0 ∷ 0 ∷ 0 ∷ []) w 0 ≡ 0 → has (0 ∷ 0 ∷ 0 ∷ 0 ∷ []) j ≡ false
    go w e zero_word = word_over (0 ∷ 0 ∷ 0 ∷ 0 ∷ []) w zero_word j (omega arith) (omega arith)
