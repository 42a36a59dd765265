-- The failures that the watches of a replay note.
use Rattle.std.specs.Prelude.{◌≡◌, ℕ, ⊤, Result, Err}
use Rattle.watched_io.specs.Failure.{HasFailed, FailsAtMostOnce}
use Rattle.farm_replay.specs.Counts.{Counts}
use Rattle.farm_replay.specs.declared.script.ReplayFault.{ReplayFault}
use Rattle.farm_replay.specs.declared.script.ReplayFault.TheVariants as fault

-- a replay that ends with `Read` notes at most one failed read, and any other one none
abbrev pub IsReadNoted : Result ⊤ ReplayFault → ℕ → ℕ → Type 0
IsReadNoted (Err fault.Read) old new = FailsAtMostOnce old new
IsReadNoted ended old new = new ≡ old

-- a replay that ends with `Write` notes one failed write, and any other one none
abbrev pub IsWriteNoted : Result ⊤ ReplayFault → ℕ → ℕ → Type 0
IsWriteNoted (Err fault.Write) old new = HasFailed old new
IsWriteNoted ended old new = new ≡ old

-- both hold; so a replay that ends well notes no failure
pub record AreNoted (ended : Result ⊤ ReplayFault) (old new : Counts) : Type 0 where
  pub reads : IsReadNoted ended old.reads new.reads
  pub writes : IsWriteNoted ended old.writes new.writes
