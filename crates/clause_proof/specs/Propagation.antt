-- Clauses that follow by unit propagation (Goldberg and Novikov 2003: Verification of proofs of
-- unsatisfiability for CNF formulas), checked backwards from the last one (Wetzler, Heule and Hunt
-- 2014: DRAT-trim). A literal is marked true if its number in `values` is the mark or above: each
-- check has the next mark.
use Rattle.std.specs.Prelude.{◌≡◌, ◌⊎◌, ℕ, ◌+◌, ◌<◌, ◌≤◌, Bool, true, false, List, [], All, length, slice_index, slice_index_or}
use Rattle.clause_kernel.specs.Clauses.{literal_true, clause_true, negated}

-- what is marked true is true
pub record IsSound (v : ℕ → Bool) (values : List ℕ) (mark : ℕ) : Type 0 where
  pub each : (l : ℕ) → mark ≤ slice_index values l → literal_true v l ≡ true

-- nothing is marked true
pub record IsFresh (values : List ℕ) (mark : ℕ) : Type 0 where
  pub each : (l : ℕ) → slice_index values l < mark

-- only literal l was written, with the mark
pub record IsAssigned (before after : List ℕ) (l mark : ℕ) : Type 0 where
  pub each : (k : ℕ) → (slice_index after k ≡ slice_index before k) ⊎ ((k ≡ l) × (slice_index after k ≡ mark))

-- all literals other than `other` are marked false
pub record HasOnly (clause values : List ℕ) (mark other : ℕ) : Type 0 where
  pub each : All (λ q. (q ≡ other) ⊎ (mark ≤ slice_index values (negated q))) clause

-- all literals are marked false
pub record HasNone (clause values : List ℕ) (mark : ℕ) : Type 0 where
  pub each : All (λ q. mark ≤ slice_index values (negated q)) clause

-- if the clause is true and the old marks are sound, so are the new ones, and there is no conflict
pub record Infers (clause before after : List ℕ) (mark : ℕ) (conflict : Bool) : Type 0 where
  pub sound : (v : ℕ → Bool) → clause_true v clause ≡ true → IsSound v before mark → IsSound v after mark
  pub none : conflict ≡ true → (v : ℕ → Bool) → clause_true v clause ≡ true → IsSound v before mark → ⊥
  pub fresh : IsFresh before (mark + 1) → IsFresh after (mark + 1)

-- what is marked true is true if the first `count` literals of a clause are false
pub record Assumes (clause : List ℕ) (count : ℕ) (values : List ℕ) (mark : ℕ) : Type 0 where
  pub sound : (v : ℕ → Bool) → ((k d : ℕ) → k < count → literal_true v (slice_index_or clause k d) ≡ false) → IsSound v values mark

-- the clause is always true
pub record IsTautology (clause : List ℕ) : Type 0 where
  pub sure : (v : ℕ → Bool) → clause_true v clause ≡ true

-- the values make each used clause before `count` true
pub record SatisfiesUsed (v : ℕ → Bool) (clauses : List (List ℕ)) (used : List Bool) (count : ℕ) : Type 0 where
  pub each : (k : ℕ) → k < count → slice_index_or used k false ≡ true → clause_true v (slice_index_or clauses k []) ≡ true

-- a clause is true if all used clauses before it are
pub record Follows (clauses : List (List ℕ)) (used : List Bool) (at : ℕ) : Type 0 where
  pub sure : (v : ℕ → Bool) → SatisfiesUsed v clauses used at → clause_true v (slice_index_or clauses at []) ≡ true

-- the used clauses before `count` cannot all be true
pub record IsRefuted (clauses : List (List ℕ)) (used : List Bool) (count : ℕ) : Type 0 where
  pub none : (v : ℕ → Bool) → SatisfiesUsed v clauses used count → ⊥

-- what was used still is
pub record Keeps (before after : List Bool) : Type 0 where
  pub each : (k : ℕ) → slice_index_or before k false ≡ true → slice_index_or after k false ≡ true

-- clauses were added behind the others
pub record Extends (before after : List (List ℕ)) : Type 0 where
  pub same : (k : ℕ) → k < length before → slice_index_or after k [] ≡ slice_index_or before k []
  pub longer : length before ≤ length after
