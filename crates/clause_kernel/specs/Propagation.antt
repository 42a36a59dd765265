-- Unit propagation along given clauses, each taken once and in order, as a step of an LRAT proof is
-- checked (Cruz-Filipe, Heule, Hunt, Kaufmann and Schneider-Kamp 2017). A set of literals is a test.
use Rattle.std.specs.Prelude.{ℕ, Bool, false, not, ◌&&◌, ◌||◌, ◌==◌, nat_lt, List, [], ◌∷◌, Option, Some, None, length, map, slice_index_or}
use Rattle.std.specs.List.{list_any, filter}
use Rattle.clause_kernel.specs.Clauses.{negated}

-- the true literals with those of a list; literals from n on belong to no variable
abbrev pub with_true : ℕ → (ℕ → Bool) → List ℕ → ℕ → Bool
with_true n trues more l = trues l || (nat_lt l n && list_any (λ q. q == l) more)

-- the literals of a clause that are not false
abbrev pub open_literals : (ℕ → Bool) → List ℕ → List ℕ
open_literals trues clause = filter (λ q. not (trues (negated q))) clause

-- the literal that has to be true: the only open one
abbrev pub unit_of : List ℕ → List ℕ
unit_of [] = []
unit_of (q ∷ []) = q ∷ []
unit_of (q ∷ r ∷ rest) = []

-- whether a clause without open literals is met; one that is absent ends the propagation
abbrev pub propagates : ℕ → List (Option (List ℕ)) → (ℕ → Bool) → Bool
propagates n [] trues = false
propagates n (None ∷ rest) trues = false
propagates n (Some c ∷ rest) trues =
    let left = open_literals trues c in
    (length left == 0) || propagates n rest (with_true n trues (unit_of left))

-- the clause of a number
abbrev pub clause_at : List (Option (List ℕ)) → ℕ → Option (List ℕ)
clause_at clauses number = slice_index_or clauses number None

-- whether a literal is a clause of its own
abbrev pub is_fixed : List Bool → ℕ → Bool
is_fixed fixed l = slice_index_or fixed l false

-- whether a clause follows: with all its literals false, one of them is true, or the hints propagate
-- to a conflict
abbrev pub follows_by : List (Option (List ℕ)) → List Bool → List ℕ → List ℕ → Bool
follows_by clauses fixed clause hints =
    let trues = with_true (length fixed) (is_fixed fixed) (map negated clause) in
    list_any trues clause || propagates (length fixed) (map (clause_at clauses) hints) trues
