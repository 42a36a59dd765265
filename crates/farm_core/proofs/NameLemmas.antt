-- Equal names.
use Rattle.std.proofs.Common.{◌≡◌, ◌↔◌, ℕ, Bool, List, [], ◌∷◌, true, false, ◌==◌, nat_eq, refl, sym, ap, eq-eqb, ◌∙◌}
use Rattle.std.proofs.lemmas.Bool.{and_parts, and_from, eqb-true}
use Rattle.farm_core.specs.Name.{same_bytes, tag_of}

same_bytes_refl : (xs : List ℕ) → same_bytes xs xs ≡ true
same_bytes_refl [] = refl
same_bytes_refl (x ∷ xs) = and_from (x == x) (same_bytes xs xs) (eq-eqb x x refl) (same_bytes_refl xs)

same_bytes_eq : (xs ys : List ℕ) → same_bytes xs ys ≡ true → xs ≡ ys
same_bytes_eq [] [] h = refl
same_bytes_eq [] (y ∷ ys) h = absurd (cc)
same_bytes_eq (x ∷ xs) [] h = absurd (cc)
same_bytes_eq (x ∷ xs) (y ∷ ys) h =
    let parts = and_parts (x == y) (same_bytes xs ys) h in
    let heads : x ≡ y = eqb-true x y parts.0 in
    let tails = same_bytes_eq xs ys parts.1 in
    cc

pub same_bytes_is : (xs ys : List ℕ) → (same_bytes xs ys ≡ true) ↔ (xs ≡ ys)
same_bytes_is xs ys = (same_bytes_eq xs ys, λ (e : xs ≡ ys). rw (← e) (same_bytes_refl xs))

differ_at : (xs ys : List ℕ) (b : Bool) → same_bytes xs ys ≡ b → nat_eq (tag_of xs) (tag_of ys) ≡ false → same_bytes xs ys ≡ false
differ_at xs ys false e apart = e
differ_at xs ys true e apart =
    let same : nat_eq (tag_of xs) (tag_of ys) ≡ true = eq-eqb (tag_of xs) (tag_of ys) (ap tag_of (same_bytes_eq xs ys e)) in
    absurd (cc)

-- names of different tags differ
pub tags_differ : (xs ys : List ℕ) (m n : ℕ) → m ≡ tag_of xs → n ≡ tag_of ys → nat_eq m n ≡ false → nat_eq m n ≡ same_bytes xs ys
tags_differ xs ys m n one two other =
    let apart : nat_eq (tag_of xs) (tag_of ys) ≡ false = rw (← one, ← two) other in
    other ∙ sym (differ_at xs ys (same_bytes xs ys) refl apart)
