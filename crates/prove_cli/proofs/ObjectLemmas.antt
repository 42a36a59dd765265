-- The parts of an object, one after the other.
use Rattle.std.proofs.Common.{◌≡◌, ℕ, List, [], ◌∷◌, ◌++◌, append_assoc}

pub whole-object : (t v s j k : List ℕ) (x y : ℕ) → ((((t ++ v) ++ s) ++ j) ++ k) ++ x ∷ y ∷ [] ≡ t ++ (v ++ s ++ j ++ k ++ (x ∷ []) ++ y ∷ [])
whole-object t v s j k x y = simp append_assoc
