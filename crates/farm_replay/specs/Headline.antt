-- What a replay promises of the bytes that it has written. Each purse's lines do not depend on
-- other tenants: non-interference (Goguen and Meseguer 1982). What the lines say about jobs is
-- true.
use Rattle.std.specs.Prelude.{◌≡◌, ℕ, Bool, List, length, Option}
use Rattle.farm_core.specs.declared.reply.Reply.TheVariants as reply
use Rattle.farm_core.specs.Config.{ConfigData}
use Rattle.farm_core.specs.World.{opened_purse}
use Rattle.session_lines.specs.declared.request.What.{What}
use Rattle.session_lines.specs.declared.said.Said.{Said}
use Rattle.session_lines.specs.declared.said.Said.TheVariants as said
use Rattle.session_lines.specs.Script.{lines_of, requests_of}
use Rattle.farm_replay.specs.Output.{Marked, items_of, output_of, IsWritten}
use Rattle.farm_replay.specs.Closing.{parts_at_end}
use Rattle.farm_replay.specs.Isolation.{seat_of, own_requests}
use Rattle.farm_replay.specs.Bytes.{AreNamesOf, lines_beginning}
use Rattle.farm_replay.specs.Truth.{WasTold, WasSubmitted, IsTrueSaid}

-- two replays are alike for a purse: it begins alike, and its members have equal names, places,
-- requests and refusals of memory
pub record IsAlike (config elsewhere : ConfigData) (p q : ℕ) (requests others : List Marked) : Type 0 where
  pub begins : opened_purse config p ≡ opened_purse elsewhere q
  pub members : (who : List ℕ) → seat_of config p who ≡ seat_of elsewhere q who
  pub asks : own_requests config p requests ≡ own_requests elsewhere q others

-- each purse's lines, and its ledger and jobs at the end, are equal to those of any replay that is
-- alike for it, whatever its script and configuration
abbrev pub IsIsolated : ConfigData → List Marked → Type 0
IsIsolated config requests = (elsewhere : ConfigData) (script : List ℕ) (others : List Marked) → items_of others ≡ requests_of script →
    (p q : ℕ) (names : List (List ℕ)) → AreNamesOf config p names → AreNamesOf elsewhere q names → IsAlike config elsewhere p q requests others →
    (lines_beginning names (output_of config requests) ≡ lines_beginning names (output_of elsewhere others))
    × (parts_at_end config requests p ≡ parts_at_end elsewhere others q)

-- each purse's lines are the output of its members' requests alone
abbrev pub IsAlone : ConfigData → List Marked → Type 0
IsAlone config requests = (p : ℕ) (names : List (List ℕ)) → AreNamesOf config p names →
    lines_beginning names (output_of config requests) ≡ lines_of (output_of config (own_requests config p requests))

-- each reply about a job is true of the one plan that its tenant submitted under its number before.
-- A schedule is feasible and has its makespan. With 'optimal' no feasible one is shorter, and with
-- 'infeasible' there is none
pub record IsTruthful (config : ConfigData) (requests : List Marked) : Type 0 where
  pub told : (t : ℕ) (what : What) (words : Said) → (it : WasTold config requests t what words) → IsTrueSaid (WasSubmitted config it.before t) words
  pub one : (t s : ℕ) (what other : What) → (here : WasTold config requests t what (said.Reply (reply.Job s))) →
      (there : WasTold config requests t other (said.Reply (reply.Job s))) → length here.before ≡ length there.before

-- the output of the script's requests was written. It is isolated, each purse's lines are those of
-- its own requests, and what they say about jobs is true
pub record IsHeadline (config : ConfigData) (script : List ℕ) (refuses : Bool) (old new : Option (List ℕ)) : Type 0 where
  pub written : IsWritten config script refuses old new
  pub isolated : IsIsolated config written.requests
  pub alone : IsAlone config written.requests
  pub truth : IsTruthful config written.requests
