-- What the reader of requests keeps of a line and of a text, for contracts of private functions.
use Rattle.std.specs.Prelude.{◌≡◌, ◌≢◌, ℕ, ◌+◌, ◌-◌, ◌<◌, Bool, true, false, not, ◌&&◌, ◌||◌, List, [], ◌∷◌, ◌++◌, All, length, take, if◌then◌else◌, Option, Some, None}
use Rattle.std.specs.List.{list_all}
use Rattle.std.specs.Io.BufRead.{take_through, drop_through, strip_last, ends_with_byte}
use Rattle.std.specs.Io.KnownBytes.{Consumes}
use Rattle.psplib_mm.specs.Text.{is_blank}
use Rattle.psplib_mm.specs.declared.fault.MmFault.{MmFault}
use Rattle.psplib_mm.specs.declared.fault.MmFault.TheVariants as fault
use Rattle.session_lines.specs.declared.bytes.TheConstants.{KEPT_OF_LINE}
use Rattle.session_lines.specs.declared.bytes.GatheredLine.{GatheredLine}
use Rattle.session_lines.specs.declared.bytes.Piece.{Piece}
use Rattle.session_lines.specs.declared.bytes.Piece.TheVariants.{End, Inside, Last}
use Rattle.session_lines.specs.declared.request.LineFault.{LineFault}
use Rattle.session_lines.specs.declared.request.LineFault.TheVariants.{File, NoMemory}
use Rattle.session_lines.specs.declared.line.LineMeaning.{LineMeaning}
use Rattle.session_lines.specs.declared.line.LineMeaning.TheVariants.{Blank, Long}
use Rattle.session_lines.specs.declared.text.Text.{Text}
use Rattle.session_lines.specs.declared.text.TheConstants.{KEPT_OF_TEXT}
use Rattle.session_lines.specs.Known.{Goes}
use Rattle.session_lines.specs.RequestLine.{meaning_of}
use Rattle.session_lines.specs.Script.{TextData, shown, is_long, is_wordless, judged}

-- `raw` was read, without its line feed: its first bytes are kept, enough to find a long line, and
-- whether it has a byte of a word
pub record Reads (kept : List ℕ) (blank returns : Bool) (raw : List ℕ) : Type 0 where
  pub front : kept ≡ take KEPT_OF_LINE raw
  pub blanks : list_all is_blank raw ≡ (blank && not returns)
  pub wordless : blank ≡ list_all is_blank (strip_last 13 raw)
  pub inside : ends_with_byte 10 raw ≡ false

-- bytes without a line feed were added to a line
pub record Extends (bytes : List ℕ) (old new : GatheredLine) : Type 0 where
  pub inside : All (λ x. x ≢ 10) bytes
  pub reads : (raw : List ℕ) → Reads old.kept.items old.is_blank old.returns raw → Reads new.kept.items new.is_blank new.returns (raw ++ bytes)

-- the first bytes of a line are kept, and whether it has no word
pub record IsFront (kept : List ℕ) (blank : Bool) (line : List ℕ) : Type 0 where
  pub front : kept ≡ take KEPT_OF_LINE line
  pub wordless : blank ≡ is_wordless line

-- the first line of xs was taken, P holds of it, and ys are left
pub record TakesLine (P : List ℕ → Type 0) (before after : ℕ) (xs ys : List ℕ) : Type 0 where
  pub some : 0 < length xs
  pub line : P (take_through 10 xs)
  pub rest : ys ≡ drop_through 10 xs
  pub paid : length xs + after ≡ length ys + before

-- no line was left
pub record TakesNone (xs ys : List ℕ) : Type 0 where
  pub none : xs ≡ []
  pub over : ys ≡ []

-- what was taken of a line: nothing at the end of the input, bytes of its inside, or bytes and its
-- line feed. `before` and `after` are the bytes that the request may still have
abbrev pub TakesPiece : Piece → GatheredLine → GatheredLine → ℕ → ℕ → Option (List ℕ) → Option (List ℕ) → Type 0
TakesPiece End line new before after a b = Goes a b TakesNone × (new ≡ line) × (after ≡ before)
TakesPiece Inside line new before after a b = (bytes : List ℕ) × Consumes a b bytes × Extends bytes line new × (length bytes + after ≡ before) × (0 < length bytes)
TakesPiece Last line new before after a b = (bytes : List ℕ) × Consumes a b (bytes ++ 10 ∷ []) × Extends bytes line new × (length bytes + 1 + after ≡ before)

-- a line was taken of which P holds, or no line was left
abbrev pub TakesIf : Bool → (List ℕ → Type 0) → ℕ → ℕ → Option (List ℕ) → Option (List ℕ) → Type 0
TakesIf true P before after a b = Goes a b (TakesLine P before after)
TakesIf false P before after a b = Goes a b TakesNone

-- a line of this meaning was taken, or no line was left
abbrev pub TakesMeaning : Option LineMeaning → ℕ → ℕ → Option (List ℕ) → Option (List ℕ) → Type 0
TakesMeaning (Some meaning) before after a b = Goes a b (TakesLine (λ line. meaning ≡ judged line) before after)
TakesMeaning None before after a b = Goes a b TakesNone

-- the meaning of a line, by its first bytes and whether it has no word
abbrev pub judged_by : List ℕ → Bool → LineMeaning
judged_by kept blank = if is_long kept then (if blank then Blank else Long) else meaning_of (shown kept)

-- what is kept of a text: its first bytes, enough to find one that is too long. They do not matter
-- if a line is long or a growth was refused
pub record IsText (text : Text) (said : TextData) : Type 0 where
  pub head : text.head ≡ said.head
  pub left : text.left ≡ said.left
  pub long : text.is_long ≡ said.is_long
  pub bytes : text.is_refused ≡ false → text.is_long ≡ false → text.bytes.items ≡ take KEPT_OF_TEXT said.bytes

-- the fault of a submit whose text was not read
abbrev pub unread : List ℕ → MmFault → LineFault
unread who fault.NoMemory = NoMemory who
unread who fault = File who fault

-- a line was added to the text
pub record Adds (old new : Text) (line : List ℕ) : Type 0 where
  pub head : new.head ≡ old.head
  pub left : new.left ≡ old.left - 1
  pub long : new.is_long ≡ (old.is_long || is_long line)
  pub refused : new.is_refused ≡ false → old.is_refused ≡ false
  pub bytes : (whole : List ℕ) → old.bytes.items ≡ take KEPT_OF_TEXT whole → new.is_refused ≡ false → new.is_long ≡ false → new.bytes.items ≡ take KEPT_OF_TEXT (whole ++ line)
