-- What a search has spent of what it was allowed.
use Rattle.std.specs.Prelude.{ℕ}

-- the conflicts counted so far, the words held in clauses, and the most words that it may hold
pub record Spent : Type 0 where
  pub conflicts : ℕ
  pub words : ℕ
  pub most_words : ℕ
