-- How often a key stands among those who wait once a job has changed.
use Rattle.std.proofs.Common.{◌≡◌, ℕ, ◌+◌, ◌<◌, Bool, true, false, List, [], ◌∷◌, ◌++◌, filter, length, ◌==◌, refl, subst, arith}
use Rattle.std.proofs.lemmas.Bool.{and_parts, eqb-true}
use Rattle.std.proofs.lemmas.Bool.Decides.{nat_tests}
use Rattle.job_table.specs.Table.{is_key, without, waiting_then}
use Rattle.job_table.proofs.RowLemmas.{one_if}

-- how often a key stands there
abbrev pub times : ℕ → ℕ → List (ℕ × ℕ) → ℕ
times t s keys = length (filter (is_key t s) keys)

pub times_first : (t s : ℕ) (key : ℕ × ℕ) (keys : List (ℕ × ℕ)) (b : Bool) → is_key t s key ≡ b → times t s (key ∷ keys) ≡ times t s keys + one_if b
times_first t s key keys true e = grind arith
times_first t s key keys false e = grind arith

pub key_sym : (t s u n : ℕ) → is_key t s (u, n) ≡ is_key u n (t, s)
key_sym t s u n = grind (arith, nat_tests)

-- another key, or the same
pub at_key : (t s u n : ℕ) (b : Bool) → is_key t s (u, n) ≡ b → (P : ℕ → ℕ → Type 0) → P t s → (is_key t s (u, n) ≡ false → P u n) → P u n
at_key t s u n true e P own other =
    let parts = and_parts (t == u) (s == n) e in
    subst (λ m. P u m) (eqb-true s n parts.1) (subst (λ v. P v s) (eqb-true t u parts.0) own)
at_key t s u n false e P own other = other e

pub key_is : (t s : ℕ) → is_key t s (t, s) ≡ true
key_is t s = grind (arith, nat_tests)

pub out_same : (t s : ℕ) (keys : List (ℕ × ℕ)) → times t s keys ≡ 1 → times t s (without t s keys) ≡ 0
out_same t s [] once = absurd (omega (arith, once))
out_same t s (key ∷ keys) once = grind (arith, out_same t s keys)

pub out_other : (t s u n : ℕ) (keys : List (ℕ × ℕ)) → is_key u n (t, s) ≡ false → times u n (without t s keys) ≡ times u n keys
out_other t s u n [] other = refl
out_other t s u n (key ∷ keys) other = grind (arith, nat_tests, out_other t s u n keys)

pub out_length : (t s : ℕ) (keys : List (ℕ × ℕ)) → times t s keys ≡ 1 → length (without t s keys) + 1 ≡ length keys
out_length t s [] once = absurd (omega (arith, once))
out_length t s (key ∷ keys) once = grind (arith, out_length t s keys)

pub out_none : (t s : ℕ) (keys : List (ℕ × ℕ)) → times t s keys ≡ 0 → without t s keys ≡ keys
out_none t s [] none = refl
out_none t s (key ∷ keys) none = grind (arith, out_none t s keys)

pub push_same : (t s : ℕ) (keys : List (ℕ × ℕ)) → times t s (keys ++ (t, s) ∷ []) ≡ times t s keys + 1
push_same t s [] = grind (arith, nat_tests)
push_same t s (key ∷ keys) = grind (arith, push_same t s keys)

pub push_other : (t s u n : ℕ) (keys : List (ℕ × ℕ)) → is_key u n (t, s) ≡ false → times u n (keys ++ (t, s) ∷ []) ≡ times u n keys
push_other t s u n [] other = grind (arith, nat_tests)
push_other t s u n (key ∷ keys) other = grind (arith, push_other t s u n keys)

pub push_length : (keys : List (ℕ × ℕ)) (key : ℕ × ℕ) → length (keys ++ key ∷ []) ≡ length keys + 1
push_length [] key = refl
push_length (k ∷ keys) key = grind (arith, push_length keys key)

pub then_same : (t s : ℕ) (was is : Bool) (keys : List (ℕ × ℕ)) → times t s keys ≡ one_if was → times t s (waiting_then t s was is keys) ≡ one_if is
then_same t s true true keys now = now
then_same t s true false keys now = out_same t s keys now
then_same t s false true keys now = omega (arith, now, push_same t s keys)
then_same t s false false keys now = now

pub then_other : (t s u n : ℕ) (was is : Bool) (keys : List (ℕ × ℕ)) → is_key u n (t, s) ≡ false → times u n (waiting_then t s was is keys) ≡ times u n keys
then_other t s u n true true keys other = refl
then_other t s u n true false keys other = out_other t s u n keys other
then_other t s u n false true keys other = push_other t s u n keys other
then_other t s u n false false keys other = refl

pub then_length : (t s : ℕ) (was is : Bool) (keys : List (ℕ × ℕ)) → times t s keys ≡ one_if was → length (waiting_then t s was is keys) + one_if was ≡ length keys + one_if is
then_length t s true true keys now = refl
then_length t s true false keys now = omega (arith, out_length t s keys now)
then_length t s false true keys now = omega (arith, push_length keys (t, s))
then_length t s false false keys now = refl

-- among no keys none stands
pub one_left : (t s : ℕ) (keys : List (ℕ × ℕ)) → times t s keys ≡ 1 → 0 < length keys
one_left t s [] one = absurd (omega (arith, one))
one_left t s (key ∷ keys) one = omega arith
