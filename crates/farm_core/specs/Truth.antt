-- Why what is answered about a job is true.
use Rattle.std.specs.Prelude.{◌≡◌, ℕ, ⊤, List, ◌∷◌, ◌++◌, Option, Some, slice_get, option_map, IsTrue, IfSome, IsSomeAnd}
use Rattle.mrcpsp.specs.Project.{is_project}
use Rattle.mrcpsp.specs.Schedule.{ScheduleData, makespan, IsFeasible, IsOptimal, IsInfeasible}
use Rattle.strategy.specs.declared.plan.Plan.{Plan}
use Rattle.strategy.specs.declared.verdict.Verdict.{Verdict}
use Rattle.strategy.specs.declared.verdict.Verdict.TheVariants.{Optimal, Infeasible}
use Rattle.farm_core.specs.declared.entry.Event.{Event}
use Rattle.farm_core.specs.declared.entry.Event.TheVariants.{Submit, Fund, Status, Fetch, Cancel, Forget, Ledger, Take, Give}
use Rattle.farm_core.specs.declared.reply.Line.{Line}
use Rattle.farm_core.specs.declared.reply.Reply.{Reply}
use Rattle.farm_core.specs.declared.reply.Reply.TheVariants as reply
use Rattle.farm_core.specs.Config.{ConfigData}
use Rattle.farm_core.specs.Step.{Answer, Replied, Sent, NoTurn}
use Rattle.farm_core.specs.World.{World, Call, Run}

-- a best schedule is feasible; with 'optimal' there is one, and no feasible schedule is shorter;
-- with 'infeasible' no schedule is feasible
pub record IsTrueBest (plan : Plan) (best : Option ScheduleData) (verdict : Verdict) : Type 0 where
  pub feasible : IfSome best (λ s. IsFeasible plan.project s)
  pub optimal : verdict ≡ Optimal → IsSomeAnd best (λ s. IsOptimal plan.project s)
  pub infeasible : verdict ≡ Infeasible → IsInfeasible plan.project

-- a reply is true of the job of a number: its plan has such a schedule, of the makespan that is named
abbrev pub IsTrueOf : (ℕ → Plan → Type 0) → ℕ → Option ℕ → Verdict → Type 0
IsTrueOf made s best verdict =
    (plan : Plan) × made s plan × ((schedule : Option ScheduleData) × (best ≡ option_map (makespan plan.project) schedule) × IsTrueBest plan schedule verdict)

abbrev pub IsTrueLine : (ℕ → Plan → Type 0) → Line → Type 0
IsTrueLine made line = IsTrueOf made line.seq line.best line.verdict

-- this of a reply with the schedule itself
abbrev pub IsTrueResult : (ℕ → Plan → Type 0) → ℕ → Option ScheduleData → Option ℕ → Verdict → Type 0
IsTrueResult made s schedule best verdict =
    (plan : Plan) × made s plan × (best ≡ option_map (makespan plan.project) schedule) × IsTrueBest plan schedule verdict

abbrev pub IsTrueReply : (ℕ → Plan → Type 0) → Reply → Type 0
IsTrueReply made (reply.Job s) = ⊤
IsTrueReply made (reply.Line line) = IsTrueLine made line
IsTrueReply made (reply.Ran ran line) = IsTrueLine made line
IsTrueReply made (reply.Best s schedule best verdict) = IsTrueResult made s schedule best verdict
IsTrueReply made (reply.Forgotten s) = ⊤
IsTrueReply made (reply.Ledger book) = ⊤
IsTrueReply made reply.NoRoom = ⊤
IsTrueReply made reply.NoUnknown = ⊤
IsTrueReply made reply.NoBusy = ⊤
IsTrueReply made reply.NoOver = ⊤
IsTrueReply made reply.NoAmount = ⊤
IsTrueReply made reply.NoJobs = ⊤
IsTrueReply made (reply.NoShort free) = ⊤
IsTrueReply made reply.NoMemory = ⊤

abbrev pub IsTrueAnswer : (ℕ → Plan → Type 0) → Answer → Type 0
IsTrueAnswer made (Replied answer) = IsTrueReply made answer
IsTrueAnswer made (Sent line) = IsTrueLine made line
IsTrueAnswer made NoTurn = ⊤

-- one of these calls is this one
abbrev pub IsAmong : List Call → Call → Type 0
IsAmong calls c = (k : ℕ) × (slice_get calls k ≡ Some c)

-- one of these calls made tenant t a job of number s for the plan
pub record WasMade (calls : List Call) (t s : ℕ) (plan : Plan) : Type 0 where
  pub at : ℕ
  pub quanta : ℕ
  pub call :
      slice_get calls at ≡ Some (record { tenant = t; event = Submit plan quanta; answer = Replied (reply.Job s) })

-- what is submitted is a project
abbrev pub IsPlanned : Event → Type 0
IsPlanned (Submit plan quanta) = IsTrue (is_project plan.project)
IsPlanned (Fund s quanta) = ⊤
IsPlanned (Status s) = ⊤
IsPlanned (Fetch s) = ⊤
IsPlanned (Cancel s) = ⊤
IsPlanned (Forget s) = ⊤
IsPlanned Ledger = ⊤
IsPlanned (Take s slice) = ⊤
IsPlanned (Give s ran) = ⊤

abbrev pub ArePlanned : List Call → Type 0
ArePlanned calls = (c : Call) → IsAmong calls c → IsPlanned c.event

-- in each run of submits of projects, a reply is true of the plan that its tenant submitted under
-- that number before. No two plans of a tenant were submitted under one number
pub record EachAnswerIsTrue : Type 0 where
  pub told : (config : ConfigData) (before behind : List Call) (c : Call) (w : World) →
      Run config (before ++ c ∷ behind) w → ArePlanned before → IsTrueAnswer (WasMade before c.tenant) c.answer
  pub one : (config : ConfigData) (calls : List Call) (w : World) → Run config calls w → (t s : ℕ) (plan other : Plan) →
      (here : WasMade calls t s plan) → (there : WasMade calls t s other) → here.at ≡ there.at
