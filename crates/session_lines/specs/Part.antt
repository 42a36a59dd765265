-- The parts of a line.
use Rattle.std.specs.Prelude.{◌≡◌, ℕ, List, [], ◌∷◌, ◌++◌, decimal, Option, Result, OnOk, OnErr}
use Rattle.std.specs.Io.KnownBytes.{Appends}
use Rattle.session_lines.specs.Known.{AppendsPart}
use Rattle.session_lines.specs.declared.put.Part.{Part}
use Rattle.session_lines.specs.declared.put.Part.TheVariants.{Text, Number}

-- the bytes of a part
abbrev pub part_text : Part → List ℕ
part_text (Text bytes) = bytes.now
part_text (Number number) = decimal number

-- the texts of parts, one after the other, behind a text
abbrev pub text_with : List ℕ → List Part → List ℕ
text_with front [] = front
text_with front (part ∷ parts) = text_with (front ++ part_text part) parts

-- the texts of parts, one after the other
abbrev pub parts_text : List Part → List ℕ
parts_text parts = text_with [] parts

-- of the bytes gathered before and the text, all but the bytes gathered now were written
pub record GathersAll (old new : Option (List ℕ)) (before now text : List ℕ) : Type 0 where
  pub gone : List ℕ
  pub split : before ++ text ≡ gone ++ now
  pub written : Appends old new gone

-- a text was gathered, or with a fault a prefix of the gathered bytes and of the text was written
pub record Gathers {T E : Type 0} (result : Result T E) (old new : Option (List ℕ)) (before now text : List ℕ) : Type 0 where
  pub ok : OnOk result (GathersAll old new before now text)
  pub err : OnErr result (AppendsPart old new (before ++ text))
