-- What the watches of a command have counted.
use Rattle.std.specs.Prelude.{◌≡◌, ℕ}

-- the failures of the project's file, of the schedule's text, of the other input, and of the writer
pub record CommandCounts : Type 0 where
  pub file : ℕ
  pub text : ℕ
  pub other : ℕ
  pub output : ℕ

-- no failed read was counted between
abbrev pub AreReadWell : CommandCounts → CommandCounts → Type 0
AreReadWell old new = (new.file ≡ old.file) × (new.text ≡ old.text) × (new.other ≡ old.other)

-- neither a failed read nor a failed write was counted between
abbrev pub AreKept : CommandCounts → CommandCounts → Type 0
AreKept old new = AreReadWell old new × (new.output ≡ old.output)
