-- What `farm replay` writes of the text of a configuration and the bytes of a script, and its exit
-- status.
use Rattle.std.specs.Prelude.{◌≡◌, ℕ, List, ⊤, Bool, Option, Result, Ok, Err, IfSome}
use Rattle.std.specs.Io.KnownBytes.{append_known}
use Rattle.farm_core.specs.Config.{ConfigData}
use Rattle.farm_config.specs.Config.{Means, HasFault}
use Rattle.watched_io.specs.Failure.{HasFailed}
use Rattle.farm_replay.specs.Output.{IsWritten, IsCutOff}
use Rattle.farm_replay.specs.declared.script.ReplayFault.{ReplayFault}
use Rattle.farm_replay.specs.Counts.{Counts, AreKept}
use Rattle.farm_replay.specs.Noted.{AreNoted}
use Rattle.farm_cli.specs.declared.replaying.ReplayStop.{ReplayStop}
use Rattle.farm_cli.specs.declared.replaying.ReplayStop.TheVariants as stop
use Rattle.farm_cli.specs.Strict.{replay_status}

-- the output of a script: whole, with whether a reply is a refusal, or cut off by a fault
abbrev pub Plays : Result ⊤ ReplayFault → ConfigData → Counts → Counts → Bool → List ℕ → Option (List ℕ) → Option (List ℕ) → Type 0
Plays (Ok done) config from seen refuses script before after = IsWritten config script refuses before after
Plays (Err fault) config from seen refuses script before after = IsCutOff config fault from seen script before after

-- the text means a configuration, and a replay on its farm ended so, with what its watches noted
pub record IsPlayed (ended : Result ⊤ ReplayFault) (text : List ℕ) (from seen : Counts) (refuses : Bool) (script before after : Option (List ℕ)) : Type 0 where
  pub config : ConfigData
  pub means : Means text (Ok config)
  pub plays : IfSome script (λ bytes. Plays ended config from seen refuses bytes before after)
  pub noted : AreNoted ended from seen

-- a prefix of the gathered output was written
pub record IsPartlyWritten (text : List ℕ) (from seen : Counts) (refuses : Bool) (script before after : Option (List ℕ)) : Type 0 where
  pub ended : Result ⊤ ReplayFault
  pub gathered : Option (List ℕ)
  pub played : IsPlayed ended text from seen refuses script before gathered
  pub rest : List ℕ
  pub front : gathered ≡ append_known after rest

-- how a replay ends under the text of a configuration. `refuses` is whether a reply is a refusal;
-- `sends` and `sent` are the counts of failed sends before and after. Only `Unsent` notes a failed
-- send
abbrev pub IsReplayOf : Result ⊤ ReplayStop → List ℕ → Counts → Counts → Bool → ℕ → ℕ → Option (List ℕ) → Option (List ℕ) → Option (List ℕ) → Type 0
IsReplayOf (Ok done) text from seen refuses sends sent script before after = (sent ≡ sends) × IsPlayed (Ok tt) text from seen refuses script before after
IsReplayOf (Err (stop.Config fault)) text from seen refuses sends sent script before after = (sent ≡ sends) × AreKept from seen × HasFault text fault × (after ≡ before)
IsReplayOf (Err (stop.Fault fault)) text from seen refuses sends sent script before after = (sent ≡ sends) × IsPlayed (Err fault) text from seen refuses script before after
IsReplayOf (Err stop.Unsent) text from seen refuses sends sent script before after = HasFailed sends sent × IsPartlyWritten text from seen refuses script before after

-- the exit status of a replay: 1 for a fault, and for a refusal of a strict one
abbrev pub stop_status : Result ⊤ ReplayStop → Bool → Bool → ℕ
stop_status (Ok done) is_strict refuses = replay_status is_strict refuses
stop_status (Err stop) is_strict refuses = 1

-- the status is that of a replay with such an end
pub record IsReplayed (status : ℕ) (is_strict refuses : Bool) (text : List ℕ) (from seen : Counts) (sends sent : ℕ) (script before after : Option (List ℕ)) : Type 0 where
  pub ended : Result ⊤ ReplayStop
  pub is : IsReplayOf ended text from seen refuses sends sent script before after
  pub ends : status ≡ stop_status ended is_strict refuses
