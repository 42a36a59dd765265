-- The steps of a kernel, as a log has them.
use Rattle.std.specs.Prelude.{ℕ, Bool, List, [], ◌∷◌, ◌++◌}

-- by step: its clause, and whether it was forgotten or else learned
pub record Steps : Type 0 where
  pub clauses : List (List ℕ)
  pub forgotten : List Bool

-- with one step more, unless its clause is empty
abbrev pub with_step : Steps → List ℕ → Bool → Steps
with_step steps [] forgotten = steps
with_step steps (l ∷ rest) forgotten = record {
  clauses = steps.clauses ++ (l ∷ rest) ∷ [];
  forgotten = steps.forgotten ++ forgotten ∷ [];
}
