-- Clauses over variables, and what a formula entails (Biere, Heule, van Maaren and Walsh 2021:
-- Handbook of Satisfiability). A literal is a number: 2 · x for the variable x, and 2 · x + 1 for
-- its negation. A formula is a list of clauses.
use Rattle.std.specs.Prelude.{◌≡◌, ℕ, ◌+◌, ◌-◌, ◌/◌, ◌%◌, ◌==◌, Bool, true, not, cond, List, All}
use Rattle.std.specs.List.{list_any}

-- the other literal of the variable
unfoldable pub negated : ℕ → ℕ
negated l = cond (l % 2 == 0) (l + 1) (l - 1)

-- whether a literal is true at these values
unfoldable pub literal_true : (ℕ → Bool) → ℕ → Bool
literal_true v l = cond (l % 2 == 0) (v (l / 2)) (not (v (l / 2)))

-- whether a clause has a true literal
unfoldable pub clause_true : (ℕ → Bool) → List ℕ → Bool
clause_true v c = list_any (literal_true v) c

-- the values make each clause true
pub record Satisfies (v : ℕ → Bool) (formula : List (List ℕ)) : Type 0 where
  pub each : All (λ c. clause_true v c ≡ true) formula

-- no values make each clause true
pub record IsUnsatisfiable (formula : List (List ℕ)) : Type 0 where
  pub none : (v : ℕ → Bool) → Satisfies v formula → ⊥

-- all values that satisfy the formula make the clause true
pub record Entails (formula : List (List ℕ)) (clause : List ℕ) : Type 0 where
  pub sure : (v : ℕ → Bool) → Satisfies v formula → clause_true v clause ≡ true
