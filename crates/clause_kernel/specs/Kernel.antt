-- What a kernel holds, and what it promises of it.
use Rattle.std.specs.Prelude.{◌≡◌, ℕ, ◌<◌, ◌||◌, Bool, true, cond, nat_lt, List, [], ◌∷◌, ◌++◌, length, Option, Some, None, slice_set}
use Rattle.clause_kernel.specs.Clauses.{negated, Entails, IsUnsatisfiable}
use Rattle.clause_kernel.specs.Propagation.{clause_at, is_fixed}

-- clauses by number; by literal whether it is a clause of its own; whether the empty clause is held
pub record Held : Type 0 where
  pub clauses : List (Option (List ℕ))
  pub fixed : List Bool
  pub refuted : Bool

-- the formula entails all that is held
pub record IsEntailed (formula : List (List ℕ)) (k : Held) : Type 0 where
  pub clauses : (n : ℕ) (c : List ℕ) → clause_at k.clauses n ≡ Some c → Entails formula c
  pub fixed : (l : ℕ) → is_fixed k.fixed l ≡ true → Entails formula (l ∷ [])
  pub refuted : k.refuted ≡ true → IsUnsatisfiable formula

-- a list with an item at a place, which is one of the list or the next
abbrev pub put_at : {X : Type 0} → List X → ℕ → X → List X
put_at xs n x = cond (nat_lt n (length xs)) (slice_set xs n x) (xs ++ x ∷ [])

-- a clause of two literals and more is kept
abbrev pub kept : List ℕ → Option (List ℕ)
kept clause = cond (nat_lt 1 (length clause)) (Some clause) None

-- clauses of two literals and more are kept, at a free number
abbrev pub clauses_with : List (Option (List ℕ)) → List ℕ → ℕ → List (Option (List ℕ))
clauses_with clauses [] n = clauses
clauses_with clauses (l ∷ []) n = clauses
clauses_with clauses (l ∷ q ∷ rest) n = put_at clauses n (Some (l ∷ q ∷ rest))

-- one of one literal fixes it
abbrev pub fixed_with : List Bool → List ℕ → List Bool
fixed_with fixed [] = fixed
fixed_with fixed (l ∷ []) = slice_set fixed l true
fixed_with fixed (l ∷ q ∷ rest) = fixed

-- the empty clause refutes, and so does a literal whose negation is fixed
abbrev pub refuted_with : Held → List ℕ → Bool
refuted_with k [] = true
refuted_with k (l ∷ []) = k.refuted || is_fixed k.fixed (negated l)
refuted_with k (l ∷ q ∷ rest) = k.refuted

-- a clause of two literals and more has a number that was free, any other 4294967295
abbrev pub IsNumberFor : List (Option (List ℕ)) → List ℕ → ℕ → Type 0
IsNumberFor clauses [] n = n ≡ 4294967295
IsNumberFor clauses (l ∷ []) n = n ≡ 4294967295
IsNumberFor clauses (l ∷ q ∷ rest) n = (n < 4294967295) × (clause_at clauses n ≡ None)

-- a clause was added, if it is kept at this number
pub record Adds (before : Held) (clause : List ℕ) (number : ℕ) (after : Held) : Type 0 where
  pub numbered : IsNumberFor before.clauses clause number
  pub clauses : after.clauses ≡ clauses_with before.clauses clause number
  pub fixed : after.fixed ≡ fixed_with before.fixed clause
  pub refuted : after.refuted ≡ refuted_with before clause
