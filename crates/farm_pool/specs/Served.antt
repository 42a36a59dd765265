-- What a farm answers, by its configuration and the entries before.
use Rattle.std.specs.Prelude.{◌≡◌, ◌⊎◌, ℕ, ◌<◌, true, false, List, length, Option, Some, None, cond, ◌++◌}
use Rattle.strategy.specs.Search.{Meaning}
use Rattle.job_table.specs.Table.{JobData, is_waiting}
use Rattle.job_table.specs.Job.{gone_out, IsOwn, meaning_of}
use Rattle.farm_core.specs.declared.entry.Entry.{Entry}
use Rattle.farm_core.specs.declared.entry.Event.{Event}
use Rattle.farm_core.specs.declared.entry.Event.TheVariants.{Take, Give}
use Rattle.farm_core.specs.declared.reply.Reply.{Reply}
use Rattle.farm_core.specs.declared.reply.Reply.TheVariants as reply
use Rattle.farm_core.specs.Command.{may_need}
use Rattle.farm_core.specs.Config.{ConfigData}
use Rattle.farm_core.specs.Tenant.{Tenant, seat, find_job, line_of}
use Rattle.farm_core.specs.Step.{Answer, Replied, Sent, step, has_room, is_slice}
use Rattle.farm_core.specs.World.{World, Call, Run, purse_in, place_in, opened_purse, events_of, after_alone, is_noted}
use Rattle.farm_core.specs.Truth.{ArePlanned}
use Rattle.turn_lock.specs.History.{listed}
use Rattle.farm_pool.specs.declared.image.TurnImage.{TurnImage}
use Rattle.farm_pool.specs.declared.image.CallImage.{CallImage}
use Rattle.farm_pool.specs.declared.image.CallImage.TheVariants as said
use Rattle.farm_pool.specs.declared.image.AnswerImage.{AnswerImage}
use Rattle.farm_pool.specs.declared.image.AnswerImage.TheVariants as told

-- a tenant's part of its purse after these entries
abbrev pub tenant_at : ConfigData → List Entry → ℕ → Tenant
tenant_at config before t = seat (after_alone (opened_purse config (purse_in config t)) (events_of config (purse_in config t) before)) (place_in config t)

-- the entry of a call, if it leaves one
abbrev pub entry_if : ℕ → Event → Answer → Option Entry
entry_if t event answer = cond (is_noted answer) (Some (record { tenant = t; event = event })) None

-- a call makes its tenant's step after these entries
pub record IsStep (config : ConfigData) (before : List Entry) (t : ℕ) (event : Event) (entry : Option Entry) (answer : Answer) : Type 0 where
  pub answer_is : answer ≡ (step (tenant_at config before t) event).answer
  pub entry_is : entry ≡ entry_if t event answer

-- a call that may need memory had none, and left no entry
pub record IsUnanswered (config : ConfigData) (before : List Entry) (t : ℕ) (event : Event) (entry : Option Entry) : Type 0 where
  pub entry_is : entry ≡ None
  pub needs : may_need (tenant_at config before t) event ≡ true

-- the answer of a tenant's call: its step's, or *no memory*
abbrev pub IsAnswered : ConfigData → List Entry → ℕ → Event → Option Entry → Reply → Type 0
IsAnswered config before t event entry reply.NoMemory = IsUnanswered config before t event entry
IsAnswered config before t event entry answer = IsStep config before t event entry (Replied answer)

-- what the search of a turn means
abbrev pub meaning_in : TurnImage → Meaning
meaning_in i = record { tenant = i.owner; plan = i.plan; nodes = i.nodes; left = i.left; taken = i.taken }

-- a turn was taken of a job that waits
pub record IsSentOut (config : ConfigData) (before : List Entry) (slice : ℕ) (entry : Option Entry) (i : TurnImage) : Type 0 where
  pub job : JobData
  pub known : i.tenant < length config.tenants
  pub found : find_job i.seq (tenant_at config before i.tenant).jobs ≡ Some job
  pub search : meaning_in i ≡ meaning_of i.tenant job
  pub slice_is : i.slice ≡ slice
  pub ran : i.ran ≡ 0
  pub steps : IsStep config before i.tenant (Take i.seq slice) entry (Sent (line_of (gone_out slice job)))

-- no turn can be taken: the slice is outside its limits, or no tenant of a waiting job has entries
-- for a turn
pub record IsIdleAt (config : ConfigData) (before : List Entry) (slice : ℕ) (entry : Option Entry) : Type 0 where
  pub entry_is : entry ≡ None
  pub none : (is_slice slice ≡ false)
      ⊎ ((t s : ℕ) (job : JobData) → t < length config.tenants → find_job s (tenant_at config before t).jobs ≡ Some job → is_waiting job.phase ≡ true → has_room 2 (tenant_at config before t) ≡ false)

-- there was no memory for a turn, though a job waits whose tenant has entries for it
pub record IsUnsent (config : ConfigData) (before : List Entry) (slice : ℕ) (entry : Option Entry) : Type 0 where
  pub entry_is : entry ≡ None
  pub slice_is : is_slice slice ≡ true
  pub tenant : ℕ
  pub seq : ℕ
  pub job : JobData
  pub known : tenant < length config.tenants
  pub found : find_job seq (tenant_at config before tenant).jobs ≡ Some job
  pub waits : is_waiting job.phase ≡ true
  pub room : has_room 2 (tenant_at config before tenant) ≡ true

-- a turn came back to its job
pub record IsTakenBack (config : ConfigData) (before : List Entry) (i : TurnImage) (entry : Option Entry) (answer : Reply) : Type 0 where
  pub job : JobData
  pub found : find_job i.seq (tenant_at config before i.tenant).jobs ≡ Some job
  pub own : IsOwn i.tenant i.slice i.ran (meaning_in i) job
  pub steps : IsStep config before i.tenant (Give i.seq i.ran) entry (Replied answer)

-- a turn belongs to no job
pub record IsStray (config : ConfigData) (before : List Entry) (i : TurnImage) (entry : Option Entry) : Type 0 where
  pub entry_is : entry ≡ None
  pub none : (job : JobData) → find_job i.seq (tenant_at config before i.tenant).jobs ≡ Some job → IsOwn i.tenant i.slice i.ran (meaning_in i) job → ⊥

-- the entries make a run of the farm, in which all submits are projects
pub record AreOfRun (config : ConfigData) (entries : List Entry) : Type 0 where
  pub calls : List Call
  pub world : World
  pub run : Run config calls world
  pub planned : ArePlanned calls
  pub journal : world.journal ≡ entries

-- the answer of a call after these entries, and the entry that it leaves
abbrev pub Answers : ConfigData → List Entry → CallImage → Option Entry → AnswerImage → Type 0
Answers config before (said.Asked t event) entry (told.Replied answer) = IsAnswered config before t event entry answer
Answers config before (said.Next slice) entry (told.Sent i) = IsSentOut config before slice entry i
Answers config before (said.Next slice) entry told.Idle = IsIdleAt config before slice entry
Answers config before (said.Next slice) entry told.NoMemory = IsUnsent config before slice entry
Answers config before (said.Back i) entry (told.Gave answer) = IsTakenBack config before i entry answer
Answers config before (said.Back i) entry told.Stray = IsStray config before i entry
Answers config before call entry answer = ⊥

-- `Answers` holds, and the entries then make a run
pub record Served (config : ConfigData) (before : List Entry) (call : CallImage) (entry : Option Entry) (answer : AnswerImage) : Type 0 where
  pub answers : Answers config before call entry answer
  pub run : AreOfRun config (before ++ listed entry)
