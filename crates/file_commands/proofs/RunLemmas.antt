-- A command that has read nothing to refuse stops for its inputs alone.
use Rattle.std.proofs.Common.{List, ℕ, Option}
use Rattle.file_commands.specs.Counts.{CommandCounts}
use Rattle.file_commands.specs.Ending.{Inputs, IsStopOf}
use Rattle.file_commands.specs.declared.ending.CommandFault.{CommandFault}
use Rattle.file_commands.specs.declared.ending.CommandFault.TheVariants.{File, Text, Other, Refused, Write}

-- a stop for no refusal is a stop, whatever is refused
pub unread : {F : Type 0} (inputs : Inputs) (refused : F → Type 0) (fault : CommandFault F) (from seen : CommandCounts) (before after : Option (List ℕ))
    → IsStopOf inputs (λ f. ⊥) fault from seen before after → IsStopOf inputs refused fault from seen before after
unread inputs refused (File kind) from seen before after p = p
unread inputs refused (Text kind) from seen before after p = p
unread inputs refused (Other kind) from seen before after p = p
unread inputs refused (Refused fault) from seen before after p = absurd p.1
unread inputs refused Write from seen before after p = p
