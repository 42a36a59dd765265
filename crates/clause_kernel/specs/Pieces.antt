-- Lists in one list, by the places at which each ends.
use Rattle.std.specs.Prelude.{◌≡◌, ℕ, zero, suc, ◌≤◌, slice_index, List, [], ◌∷◌, slice_range}

-- the lists from a place on
abbrev pub pieces : List ℕ → ℕ → List ℕ → List (List ℕ)
pieces literals from [] = []
pieces literals from (end ∷ ends) = slice_range literals from end ∷ pieces literals end ends

-- the ends rise from a place to the last one
abbrev pub AreEnds : ℕ → List ℕ → ℕ → Type 0
AreEnds from [] last = from ≡ last
AreEnds from (end ∷ ends) last = (from ≤ end) × AreEnds end ends last

-- where a piece begins
abbrev pub start_of : ℕ → List ℕ → ℕ → ℕ
start_of from ends zero = from
start_of from ends (suc k) = slice_index ends k
