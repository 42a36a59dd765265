-- How a command over files ends, and its exit status.
use Rattle.std.specs.Prelude.{◌≡◌, ℕ, Bool, true, false, IsTrue, List, ⊤, Option, Result, Ok, Err}
use Rattle.watched_io.specs.Failure.{HasFailed}
use Rattle.file_commands.specs.Counts.{CommandCounts, AreReadWell, AreKept}
use Rattle.file_commands.specs.declared.ending.CommandFault.{CommandFault}
use Rattle.file_commands.specs.declared.ending.CommandFault.TheVariants.{File, Text, Other, Refused, Write}

-- the inputs that a command reads beside a project's file: a schedule's text, and another, which is
-- a proof or a second schedule
pub record Inputs : Type 0 where
  pub text : Bool
  pub other : Bool

-- a project's file alone
abbrev pub file_alone : Inputs
file_alone = record { text = false; other = false }

-- a schedule's text too
abbrev pub file_and_text : Inputs
file_and_text = record { text = true; other = false }

-- or a proof
abbrev pub file_and_proof : Inputs
file_and_proof = record { text = false; other = true }

-- or both
abbrev pub all_inputs : Inputs
all_inputs = record { text = true; other = true }

-- nothing was written, and no failed write was counted
abbrev pub IsUnwritten : CommandCounts → CommandCounts → Option (List ℕ) → Option (List ℕ) → Type 0
IsUnwritten from seen before after = (after ≡ before) × (seen.output ≡ from.output)

-- why a command stops: an input could not be read, and nothing was written; its inputs are refused;
-- or a write failed. `from` and `seen` are the counts of its watches before and after
abbrev pub IsStopOf : {F : Type 0} → Inputs → (F → Type 0) → CommandFault F → CommandCounts → CommandCounts → Option (List ℕ) → Option (List ℕ) → Type 0
IsStopOf inputs refused (File kind) from seen before after = IsUnwritten from seen before after × HasFailed from.file seen.file × (seen.text ≡ from.text) × (seen.other ≡ from.other)
IsStopOf inputs refused (Text kind) from seen before after =
    IsTrue inputs.text × IsUnwritten from seen before after × (seen.file ≡ from.file) × HasFailed from.text seen.text × (seen.other ≡ from.other)
IsStopOf inputs refused (Other kind) from seen before after =
    IsTrue inputs.other × IsUnwritten from seen before after × (seen.file ≡ from.file) × (seen.text ≡ from.text) × HasFailed from.other seen.other
IsStopOf inputs refused (Refused fault) from seen before after = AreReadWell from seen × refused fault
IsStopOf inputs refused Write from seen before after = AreReadWell from seen × HasFailed from.output seen.output

-- how a command ends: its text was written, or it stops
abbrev pub IsEndOf : {F : Type 0} → Inputs → Type 0 → (F → Type 0) → Result ⊤ (CommandFault F) → CommandCounts → CommandCounts → Option (List ℕ) → Option (List ℕ) → Type 0
IsEndOf inputs written refused (Ok done) from seen before after = AreKept from seen × written
IsEndOf inputs written refused (Err fault) from seen before after = IsStopOf inputs refused fault from seen before after

-- the exit status of a command: 1 for a fault
abbrev pub command_status : {F : Type 0} → Result ⊤ (CommandFault F) → ℕ
command_status (Ok done) = 0
command_status (Err fault) = 1

-- the status is that of a command with such an end
pub record Ends {F : Type 0} (IsSo : Result ⊤ (CommandFault F) → Type 0) (status : ℕ) : Type 0 where
  pub ended : Result ⊤ (CommandFault F)
  pub is : IsSo ended
  pub ends : status ≡ command_status ended
