-- How `prove` ends.
use Rattle.std.specs.Prelude.{ℕ, Bool, List, ⊤, Option, Result, Ok, Err, IfSome, take}
use Rattle.psplib_mm.specs.Gives.{Fails}
use Rattle.psplib_mm.specs.Reading.{reading}
use Rattle.file_commands.specs.Counts.{CommandCounts, AreKept}
use Rattle.file_commands.specs.Ending.{IsStopOf, IsUnwritten, file_alone}
use Rattle.file_commands.specs.declared.ending.CommandFault.{CommandFault}
use Rattle.file_commands.specs.declared.inputs.TheConstants.{MOST_TEXT}
use Rattle.prove_cli.specs.Proved.{IsProved}
use Rattle.prove_cli.specs.declared.fault.ProveFault.{ProveFault}
use Rattle.prove_cli.specs.declared.fault.ProveFault.TheVariants as why
use Rattle.prove_cli.specs.declared.proof_run.ProofEnd.{ProofEnd}
use Rattle.prove_cli.specs.declared.proof_run.ProofEnd.TheVariants as end

-- the file is at fault, or there was no memory
abbrev pub IsOfFile : ProveFault → Option (List ℕ) → Type 0
IsOfFile (why.File fault) file = IfSome file (λ bytes. Fails fault (reading (take MOST_TEXT bytes)))
IsOfFile why.NoMemory file = ⊤

-- why nothing is proved
abbrev pub IsUnproved : CommandFault ProveFault → CommandCounts → CommandCounts → Option (List ℕ) → Option (List ℕ) → Option (List ℕ) → Type 0
IsUnproved fault from seen file before after = IsStopOf file_alone (λ why. IsUnwritten from seen before after × IsOfFile why file) fault from seen before after

-- the end of the command
abbrev pub IsProveOf : Bool → Result ProofEnd (CommandFault ProveFault) → CommandCounts → CommandCounts → Option (List ℕ) → Option (List ℕ) → Option (List ℕ) → Type 0
IsProveOf is_json (Ok ended) from seen file before after = AreKept from seen × IfSome file (λ bytes. IsProved is_json ended (take MOST_TEXT bytes) before after)
IsProveOf is_json (Err fault) from seen file before after = IsUnproved fault from seen file before after

-- the status of an end
abbrev pub end_status : ProofEnd → ℕ
end_status end.Decided = 0
end_status end.Gap = 3
