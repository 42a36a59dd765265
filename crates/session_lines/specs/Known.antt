-- What a step does to known bytes: what a reader has left, or a writer holds.
use Rattle.std.specs.Prelude.{◌≡◌, ℕ, List, ◌++◌, ⊤, None, Some, Option, Result, OnOk, OnErr}
use Rattle.std.specs.Io.KnownBytes.{Appends}

-- known bytes stay known, and P holds of the bytes before and after
abbrev pub Goes : Option (List ℕ) → Option (List ℕ) → (List ℕ → List ℕ → Type 0) → Type 0
Goes None new P = ⊤
Goes (Some xs) None P = ⊥
Goes (Some xs) (Some ys) P = P xs ys

-- known bytes grew by a prefix of `bytes`
pub record AppendsPart (old new : Option (List ℕ)) (bytes : List ℕ) : Type 0 where
  pub part : List ℕ
  pub rest : List ℕ
  pub split : bytes ≡ part ++ rest
  pub written : Appends old new part

-- all bytes were written, or with a fault a prefix of them
pub record Writes {T E : Type 0} (result : Result T E) (old new : Option (List ℕ)) (bytes : List ℕ) : Type 0 where
  pub ok : OnOk result (Appends old new bytes)
  pub err : OnErr result (AppendsPart old new bytes)
