-- What the runner reads, and how a command ends that gives a text for texts.
use Rattle.std.specs.Prelude.{◌≡◌, ℕ, List, [], ⊤, Option, Some, None, Result, IfSome, take, is_some}
use Rattle.std.specs.Io.KnownBytes.{Appends}
use Rattle.file_commands.specs.Counts.{CommandCounts}
use Rattle.file_commands.specs.Ending.{Inputs, IsEndOf, IsUnwritten}
use Rattle.file_commands.specs.declared.ending.CommandFault.{CommandFault}
use Rattle.file_commands.specs.declared.inputs.TheConstants.{MOST_TEXT}
use Rattle.file_commands.specs.declared.answer.Texts.{Texts}
use Rattle.file_commands.specs.declared.sources.Sources.{Sources}

-- the bytes of a project's file, of a schedule's text, and of a proof or a second schedule
pub record TextsData : Type 0 where
  pub file : List ℕ
  pub text : List ℕ
  pub other : List ℕ

abbrev pub texts_of : Texts → TextsData
texts_of t = record { file = t.file.now; text = t.text.now; other = t.other.now }

-- what a command is given: the bytes that its inputs have, where they are known, which inputs it
-- reads, and how many bytes it reads of the other input
pub record Given : Type 0 where
  pub file : Option (List ℕ)
  pub text : Option (List ℕ)
  pub other : Option (List ℕ)
  pub inputs : Inputs
  pub most : ℕ

-- an input that a command does not read has no bytes
abbrev pub rest_of : {S : Type 0} → (S → Option (List ℕ)) → Option S → Option (List ℕ)
rest_of rest None = Some []
rest_of rest (Some source) = rest source

-- what sources give, by what each of them has left
abbrev pub given_by : {S : Type 0} → (S → Option (List ℕ)) → Sources S → Given
given_by rest s =
    record { file = rest s.file; text = rest_of rest s.text; other = rest_of rest s.other; inputs = record { text = is_some s.text; other = is_some s.other }; most = s.most_other }

-- the texts are what the inputs begin with
pub record AreTexts (given : Given) (texts : TextsData) : Type 0 where
  pub file : IfSome given.file (λ all. texts.file ≡ take MOST_TEXT all)
  pub text : IfSome given.text (λ all. texts.text ≡ take MOST_TEXT all)
  pub other : IfSome given.other (λ all. texts.other ≡ take given.most all)

-- a text that the command gives for the texts was written
pub record IsWritten (Gives : TextsData → List ℕ → Type 0) (given : Given) (before after : Option (List ℕ)) : Type 0 where
  pub texts : TextsData
  pub are : AreTexts given texts
  pub shown : List ℕ
  pub gives : Gives texts shown
  pub wrote : Appends before after shown

-- the command refuses the texts for this fault
pub record IsRefused (Refuses : TextsData → Type 0) (given : Given) : Type 0 where
  pub texts : TextsData
  pub are : AreTexts given texts
  pub refuses : Refuses texts

-- how a command ends: its text was written; or an input could not be read, or it refuses the texts,
-- and nothing was written; or a write failed
abbrev pub IsRunOf : {F : Type 0} → (TextsData → List ℕ → Type 0) → (TextsData → F → Type 0) → Given → Result ⊤ (CommandFault F) → CommandCounts → CommandCounts → Option (List ℕ) → Option (List ℕ) → Type 0
IsRunOf Gives Refuses given ended from seen before after =
    IsEndOf given.inputs (IsWritten Gives given before after) (λ fault. IsUnwritten from seen before after × IsRefused (λ texts. Refuses texts fault) given) ended from seen before after
