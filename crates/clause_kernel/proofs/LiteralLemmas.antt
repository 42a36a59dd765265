-- A literal and its negation.
use Rattle.std.proofs.Common.{◌≡◌, ◌⊎◌, ℕ, ◌+◌, ◌-◌, ◌/◌, ◌%◌, ◌==◌, Bool, true, false, not, arith, refl, ⊎_elim, inl, inr}
use Rattle.std.proofs.lemmas.Bool.{cases_Bool, eqb-true, eqb-false}
use Rattle.std.proofs.Math.Bool.{not-not}
use Rattle.clause_kernel.specs.Clauses.{negated, literal_true}

even_or_odd : (l : ℕ) → (((l % 2 == 0) ≡ true) × (l % 2 ≡ 0)) ⊎ (((l % 2 == 0) ≡ false) × (l % 2 ≡ 1))
even_or_odd l =
    ⊎_elim
    (λ (e : (l % 2 == 0) ≡ true). inl (e, eqb-true (l % 2) 0 e))
    (λ (e : (l % 2 == 0) ≡ false). let ne : l % 2 ≡ 0 → ⊥ = eqb-false (l % 2) 0 e in inr (e, omega arith))
    (cases_Bool (l % 2 == 0))

even_next : (l : ℕ) → l % 2 ≡ 0 → ((l + 1) % 2 == 0) ≡ false
even_next l e =
    ⊎_elim
    (λ (f : ((l + 1) % 2 == 0) ≡ true). absurd (let g = eqb-true ((l + 1) % 2) 0 f in omega arith))
    (λ (f : ((l + 1) % 2 == 0) ≡ false). f)
    (cases_Bool ((l + 1) % 2 == 0))

odd_before : (l : ℕ) → l % 2 ≡ 1 → ((l - 1) % 2 == 0) ≡ true
odd_before l e =
    ⊎_elim
    (λ (f : ((l - 1) % 2 == 0) ≡ true). f)
    (λ (f : ((l - 1) % 2 == 0) ≡ false). absurd (let g : (l - 1) % 2 ≡ 0 → ⊥ = eqb-false ((l - 1) % 2) 0 f in omega arith))
    (cases_Bool ((l - 1) % 2 == 0))

half_even : (l : ℕ) → l % 2 ≡ 0 → (l + 1) / 2 ≡ l / 2
half_even l e = omega arith

half_odd : (l : ℕ) → l % 2 ≡ 1 → (l - 1) / 2 ≡ l / 2
half_odd l e = omega arith

pub negated-true : (v : ℕ → Bool) (l : ℕ) → literal_true v (negated l) ≡ not (literal_true v l)
unfolding literal_true negated
negated-true v l =
    ⊎_elim
    (λ (e : ((l % 2 == 0) ≡ true) × (l % 2 ≡ 0)). rw (e.0, even_next l e.1, half_even l e.1) refl)
    (λ (e : ((l % 2 == 0) ≡ false) × (l % 2 ≡ 1)). rw (e.0, odd_before l e.1, half_odd l e.1, not-not (v (l / 2))) refl)
    (even_or_odd l)

-- a literal that is kept as false is false
