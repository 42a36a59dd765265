-- What the watches of a replay have counted.
use Rattle.std.specs.Prelude.{◌≡◌, ℕ}

-- the failures of the reader and of the writer
pub record Counts : Type 0 where
  pub reads : ℕ
  pub writes : ℕ

-- no failure was counted between
abbrev pub AreKept : Counts → Counts → Type 0
AreKept old new = (new.reads ≡ old.reads) × (new.writes ≡ old.writes)
