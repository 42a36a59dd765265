-- Why each purse of a running pool is isolated, and why what the pool replies about a job is true.
use Rattle.std.specs.Prelude.{◌≡◌, ◌≢◌, ℕ, ◌+◌, ◌-◌, ◌<◌, true, false, List, [], ◌∷◌, ◌++◌, cond, take, length, Some, slice_get}
use Rattle.strategy.specs.declared.plan.Plan.{Plan}
use Rattle.job_table.specs.Table.{JobData, is_waiting}
use Rattle.job_table.specs.Job.{is_turn, back}
use Rattle.farm_core.specs.declared.entry.Entry.{Entry}
use Rattle.farm_core.specs.declared.entry.Event.{Event}
use Rattle.farm_core.specs.declared.entry.Event.TheVariants.{Submit, Cancel}
use Rattle.farm_core.specs.declared.reply.Line.{Line as JobLine}
use Rattle.farm_core.specs.declared.reply.Reply.{Reply}
use Rattle.farm_core.specs.declared.reply.Reply.TheVariants.{Job, Line, NoMemory, Ran}
use Rattle.farm_core.specs.Config.{ConfigData}
use Rattle.farm_core.specs.Tenant.{Tenant, find_job, line_of}
use Rattle.farm_core.specs.Step.{Replied, step, has_room, is_slice, may_have_run}
use Rattle.farm_core.specs.World.{Asked, purse_in, place_in, opened_purse, events_of, is_noted, answers_alone}
use Rattle.farm_core.specs.Truth.{IsPlanned, IsTrueReply}
use Rattle.turn_lock.specs.History as history
use Rattle.turn_lock.specs.History.{IsLegal}
use Rattle.turn_lock.specs.Plays.{Called}
use Rattle.turn_lock.specs.declared.view.Stage.TheVariants.{Idle}
use Rattle.farm_pool.specs.declared.image.TurnImage.{TurnImage}
use Rattle.farm_pool.specs.declared.image.CallImage.{CallImage}
use Rattle.farm_pool.specs.declared.image.CallImage.TheVariants as said
use Rattle.farm_pool.specs.declared.image.AnswerImage.{AnswerImage}
use Rattle.farm_pool.specs.declared.image.AnswerImage.TheVariants as told
use Rattle.farm_pool.specs.Served.{tenant_at, IsAnswered, AreOfRun, Served}
use Rattle.farm_pool.specs.Worked.{PoolView, Worked}

-- what a purse's members asked for among the entries of a history, in order
abbrev pub own_in : ConfigData → ℕ → List (ℕ × Entry) → List Asked
own_in config p log = events_of config p (history.events_of log)

-- the entries of a legal history make a run of the farm, from the new farm on
abbrev pub LegalHistoriesAreRuns : Type 0
LegalHistoriesAreRuns = (config : ConfigData) (log : List (ℕ × Entry)) → IsLegal Served config log → AreOfRun config (history.events_of log)

-- the reply is the last one that the purse's members get alone, for their calls before and this
-- one. A call that leaves an entry is the last of the purse's own, any other call is none of them
pub record IsAlone (config : ConfigData) (t : ℕ) (event : Event) (reply : Reply) (before seen : List (ℕ × Entry)) : Type 0 where
  pub last :
      let p = purse_in config t in
      let asked : Asked = record { place = place_in config t; event = event } in
      answers_alone (opened_purse config p) (own_in config p before ++ asked ∷ []) ≡ answers_alone (opened_purse config p) (own_in config p before) ++ Replied reply ∷ []
  pub own :
      let asked : Asked = record { place = place_in config t; event = event } in
      own_in config (purse_in config t) seen ≡ own_in config (purse_in config t) before ++ cond (is_noted (Replied reply)) (asked ∷ []) []

-- the replies of a running pool to a purse's members are the replies to their own calls alone
abbrev pub EachReplyIsAlone : Type 0
EachReplyIsAlone = (v w : PoolView) (t : ℕ) (event : Event) (reply : Reply) →
    (called : Called Served v (said.Asked t event) (told.Replied reply) w) → reply ≢ NoMemory → IsAlone called.opening t event reply called.before w.seen

-- replies are isolated. Two pools give equal replies to equal calls, if the purses began alike and
-- had equal calls and turns before. What other tenants do, and all numbers of purses and members,
-- make no difference
abbrev pub EachReplyIsIsolated : Type 0
EachReplyIsIsolated = (v w x y : PoolView) (t u : ℕ) (event : Event) (reply other : Reply) →
    (one : Called Served v (said.Asked t event) (told.Replied reply) w) → (two : Called Served x (said.Asked u event) (told.Replied other) y) →
    reply ≢ NoMemory → other ≢ NoMemory →
    opened_purse one.opening (purse_in one.opening t) ≡ opened_purse two.opening (purse_in two.opening u) → place_in one.opening t ≡ place_in two.opening u →
    own_in one.opening (purse_in one.opening t) one.before ≡ own_in two.opening (purse_in two.opening u) two.before → reply ≡ other

-- the entries hold tenant t's submit of the plan, which was answered with job number s
pub record WasSubmitted (config : ConfigData) (entries : List Entry) (t s : ℕ) (plan : Plan) : Type 0 where
  pub at : ℕ
  pub quanta : ℕ
  pub entry : slice_get entries at ≡ Some (record { tenant = t; event = Submit plan quanta })
  pub answered : IsAnswered config (take at entries) t (Submit plan quanta) (slice_get entries at) (Job s)

-- the reply to a call of tenant t is true of a plan that the tenant submitted under its number
-- before
abbrev pub IsTrueOf : PoolView → ℕ → Event → Reply → PoolView → Type 0
IsTrueOf v t event reply w = (called : Called Served v (said.Asked t event) (told.Replied reply) w) →
    IsTrueReply (WasSubmitted called.opening (history.events_of called.before) t) reply

-- what is replied about a job is true of a plan that the tenant submitted under its number before:
-- to a command, and to a give. No tenant has submitted two plans under one number
pub record EachReplyIsTrue : Type 0 where
  pub asked : (v w : PoolView) (t : ℕ) (event : Event) (reply : Reply) → IsTrueOf v t event reply w
  pub back : (v w : PoolView) (turn : TurnImage) (reply : Reply) →
      (called : Called Served v (said.Back turn) (told.Gave reply) w) →
      IsTrueReply (WasSubmitted called.opening (history.events_of called.before) turn.tenant) reply
  pub one : (v w : PoolView) (call : CallImage) (answer : AnswerImage) → (called : Called Served v call answer w) → (t s : ℕ) (plan other : Plan) →
      WasSubmitted called.opening (history.events_of called.before) t s plan →
      WasSubmitted called.opening (history.events_of called.before) t s other → plan ≡ other

-- a pass that has seen this history has this reply to its next call
pub record IsReplied (config : ConfigData) (log : List (ℕ × Entry)) (number splits calls t : ℕ) (event : Event) (reply : Reply) : Type 0 where
  pub after : PoolView
  pub called :
      let own = history.entries_of number log in
      let seen : PoolView = record { stage = Idle; number = number; opening = Some config; seen = log; mine = own; splits = splits; calls = calls } in
      Called Served seen (said.Asked t event) (told.Replied reply) after
  pub before : called.before ≡ log

-- after each legal history each call of a tenant can have the reply of the tenant's step. So no law
-- about replies is empty
abbrev pub EachReplyCanBeMade : Type 0
EachReplyCanBeMade = (config : ConfigData) (log : List (ℕ × Entry)) (number splits calls : ℕ) → IsLegal Served config log →
    (t : ℕ) → t < length config.tenants → (event : Event) → IsPlanned event → (reply : Reply) →
    (step (tenant_at config (history.events_of log) t) event).answer ≡ Replied reply → reply ≢ NoMemory → IsReplied config log number splits calls t event reply

-- the turn of tenant t's job s for at most `slice` nodes, of which `ran` have run
abbrev pub turn_of : ℕ → ℕ → ℕ → ℕ → JobData → TurnImage
turn_of t s slice ran job =
    record { tenant = t; seq = s; slice = slice; ran = ran; owner = t; plan = job.plan; nodes = job.nodes + ran; left = job.left - ran; taken = false }

-- a pass that has seen this history has this answer to its next call
pub record IsTold (config : ConfigData) (log : List (ℕ × Entry)) (number splits calls : ℕ) (call : CallImage) (answer : AnswerImage) : Type 0 where
  pub after : PoolView
  pub called :
      let own = history.entries_of number log in
      let seen : PoolView = record { stage = Idle; number = number; opening = Some config; seen = log; mine = own; splits = splits; calls = calls } in
      Called Served seen call answer after
  pub before : called.before ≡ log

-- after each legal history each waiting job can be taken, if its tenant has entries. Each turn that
-- is out can be given, with none or all of its nodes run. So no law about turns is empty
pub record EachTurnCanBeMade : Type 0 where
  pub taken : (config : ConfigData) (log : List (ℕ × Entry)) (number splits calls : ℕ) → IsLegal Served config log → (t s slice : ℕ) (job : JobData) →
      let tenant : Tenant = tenant_at config (history.events_of log) t in
      t < length config.tenants → find_job s tenant.jobs ≡ Some job → is_waiting job.phase ≡ true → is_slice slice ≡ true → has_room 2 tenant ≡ true →
      IsTold config log number splits calls (said.Next slice) (told.Sent (turn_of t s slice 0 job))
  pub given : (config : ConfigData) (log : List (ℕ × Entry)) (number splits calls : ℕ) → IsLegal Served config log → (t s slice ran : ℕ) (job : JobData) →
      t < length config.tenants → find_job s (tenant_at config (history.events_of log) t).jobs ≡ Some job → is_turn slice job.phase ≡ true →
      may_have_run ran job job.phase ≡ true →
      IsTold config log number splits calls (said.Back (turn_of t s slice ran job)) (told.Gave (Ran ran (line_of (back ran job))))

-- a cancel that its tenant's step accepts is answered so, whatever memory there is
abbrev pub AcceptedCancelsAreMade : Type 0
AcceptedCancelsAreMade = (v w : PoolView) (t s : ℕ) (reply : Reply) →
    (called : Called Served v (said.Asked t (Cancel s)) (told.Replied reply) w) → (line : JobLine) →
    (step (tenant_at called.opening (history.events_of called.before) t) (Cancel s)).answer ≡ Replied (Line line) → reply ≡ Line line

-- a call is one call of its pass, and neither a call nor a worker splits a pass off: no call is
-- hidden, not even one that leaves no entry
pub record NoPassIsSplitOff : Type 0 where
  pub called : (v w : PoolView) (call : CallImage) (answer : AnswerImage) → Called Served v call answer w →
      (w.splits ≡ v.splits) × (w.calls ≡ v.calls + 1)
  pub worked : (slice turns strangers : ℕ) (v w : PoolView) → Worked slice v turns strangers w → w.splits ≡ v.splits
