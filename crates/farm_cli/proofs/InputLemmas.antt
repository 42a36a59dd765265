-- The front of an input that is shorter than its limit.
use Rattle.std.proofs.Common.{◌≡◌, ℕ, ◌<◌, ◌≤◌, List, length, take, Option, Some, None, IfSome, ap, ◌∙◌, min, arith}
use Rattle.std.proofs.lemmas.List.{length-take, take_all}

-- it is the whole
whole : (limit : ℕ) (all items : List ℕ) → items ≡ take limit all → (length items ≡ limit → ⊥) → (items ≡ all) × (length all < limit)
whole limit all items front more =
    let count : length items ≡ min limit (length all) = ap length front ∙ length-take limit all in
    let below : length all < limit = omega arith in
    (front ∙ take_all limit all (omega arith), below)

-- the same of a reader, where its bytes are known
pub whole_known : (limit : ℕ) (known : Option (List ℕ)) (items : List ℕ) → IfSome known (λ all. items ≡ take limit all) →
    (length items ≡ limit → ⊥) → IfSome known (λ all. (items ≡ all) × (length all < limit))
whole_known limit None items front more = front
whole_known limit (Some all) items front more = whole limit all items front more

-- and where the front is as long as its limit, the reader had no less
pub cut_known : (limit : ℕ) (known : Option (List ℕ)) (items : List ℕ) → IfSome known (λ all. items ≡ take limit all) →
    length items ≡ limit → IfSome known (λ all. limit ≤ length all)
cut_known limit None items front full = front
cut_known limit (Some all) items front full =
    let count : length items ≡ min limit (length all) = ap length front ∙ length-take limit all in
    omega arith
