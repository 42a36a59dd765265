-- Why what a replay writes about a job is true.
use Rattle.std.specs.Prelude.{◌≡◌, ℕ, ⊤, List, ◌∷◌, ◌++◌, length, Some, Ok}
use Rattle.strategy.specs.declared.plan.Plan.{Plan}
use Rattle.farm_core.specs.declared.reply.Reply.TheVariants as reply
use Rattle.farm_core.specs.Config.{ConfigData}
use Rattle.farm_core.specs.Truth.{IsTrueReply}
use Rattle.session_lines.specs.declared.request.What.{What}
use Rattle.session_lines.specs.declared.request.What.TheVariants.{Submit}
use Rattle.session_lines.specs.declared.said.Said.{Said}
use Rattle.session_lines.specs.declared.said.Said.TheVariants as said
use Rattle.session_lines.specs.Script.{requests_of}
use Rattle.farm_session.specs.Routed.{tenant_number}
use Rattle.farm_replay.specs.Output.{Marked, items_of, opening, next, parts_after}

-- a reply about a job is true of a plan that was made under its number
abbrev pub IsTrueSaid : (ℕ → Plan → Type 0) → Said → Type 0
IsTrueSaid made (said.Reply answer) = IsTrueReply made answer
IsTrueSaid made said.NoTurn = ⊤
IsTrueSaid made said.NoTenant = ⊤
IsTrueSaid made said.Syntax = ⊤
IsTrueSaid made said.LongLine = ⊤
IsTrueSaid made (said.File fault) = ⊤

-- one of the requests is tenant t's, and this is its reply
pub record WasTold (config : ConfigData) (requests : List Marked) (t : ℕ) (what : What) (words : Said) : Type 0 where
  pub before : List Marked
  pub request : Marked
  pub behind : List Marked
  pub whole : requests ≡ before ++ request ∷ behind
  pub who : List ℕ
  pub asks : request.item.answer ≡ Ok (record { who = who; what = what })
  pub number : tenant_number who config ≡ Some t
  pub says : words ≡ (next config (parts_after config (opening config) before) request).line.said

-- one of the requests is tenant t's submit of the plan, and its reply is job number s
abbrev pub WasSubmitted : ConfigData → List Marked → ℕ → ℕ → Plan → Type 0
WasSubmitted config requests t s plan = (quanta : ℕ) × WasTold config requests t (Submit plan.kind quanta plan.project) (said.Reply (reply.Job s))

-- each line about a job is true of a plan that its tenant submitted under its number before. A
-- schedule is feasible and has its makespan. With 'optimal' no feasible one is shorter, and with
-- 'infeasible' there is none. A job number of a tenant is the reply to one request only. All this
-- holds whatever memory was refused
pub record EachLineIsTrue : Type 0 where
  pub told : (config : ConfigData) (script : List ℕ) (requests : List Marked) → items_of requests ≡ requests_of script →
      (t : ℕ) (what : What) (words : Said) → (it : WasTold config requests t what words) →
      IsTrueSaid (WasSubmitted config it.before t) words
  pub one : (config : ConfigData) (requests : List Marked) (t s : ℕ) (what other : What) →
      (here : WasTold config requests t what (said.Reply (reply.Job s))) →
      (there : WasTold config requests t other (said.Reply (reply.Job s))) → length here.before ≡ length there.before
