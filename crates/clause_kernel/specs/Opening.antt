-- The open literals of a clause: none, one, or more.
use Rattle.std.specs.Prelude.{ℕ, List, [], ◌∷◌}
use Rattle.clause_kernel.specs.declared.marks.Open.{Open}
use Rattle.clause_kernel.specs.declared.marks.Open.TheVariants.{Nothing, One, More}

abbrev pub open_case : List ℕ → Open
open_case [] = Nothing
open_case (q ∷ []) = One q
open_case (q ∷ r ∷ rest) = More
