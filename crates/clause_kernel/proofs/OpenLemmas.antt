-- The open literals of a clause, as they are found.
use Rattle.std.proofs.Common.{ℕ, List, [], ◌∷◌, Option, Some, None}

-- what was found so far
abbrev pub listed : Option ℕ → List ℕ
listed None = []
listed (Some q) = q ∷ []
