-- Turns that were taken and are not back yet.
use Rattle.std.specs.Prelude.{◌≡◌, ◌⊎◌, ⊤, ℕ, ◌<◌, Bool, true, false, ◌==◌, List, [], ◌∷◌, length, Option, Some, None}
use Rattle.strategy.specs.Search.{Meaning, nodes_within, ran_on}
use Rattle.job_table.specs.Table.{JobData, is_out}
use Rattle.job_table.specs.Job.{IsOwn, IsStrange}
use Rattle.farm_core.specs.declared.entry.Event.{Event}
use Rattle.farm_core.specs.declared.entry.Event.TheVariants.{Take, Give}
use Rattle.farm_core.specs.declared.reply.Reply.{Reply}
use Rattle.farm_core.specs.Turn.{TurnData}
use Rattle.farm_core.specs.Config.{ConfigData}
use Rattle.farm_core.specs.Tenant.{find_job, nodes_out_in}
use Rattle.farm_core.specs.Step.{Answer, Replied}
use Rattle.farm_core.specs.Turn.{IsTaken}
use Rattle.farm_core.specs.World.{World, opened, view, Follows, IsOfJournal}

-- there is a job, and it is out
abbrev pub is_out_of : Option JobData → Bool
is_out_of None = false
is_out_of (Some job) = is_out job.phase

-- the call takes a turn of job s; it gives one back
abbrev pub takes : ℕ → Event → Bool
takes s (Take n slice) = n == s
takes s event = false

abbrev pub gives : ℕ → Event → Bool
gives s (Give n ran) = n == s
gives s event = false

-- a turn that was taken and has not run: its job is out for it
pub record IsOutFor (w : World) (t s slice : ℕ) (m : Meaning) : Type 0 where
  pub job : JobData
  pub found : find_job s (view t w).jobs ≡ Some job
  pub own : IsOwn t slice 0 m job
  pub best : m.taken ≡ false

-- the nodes that the job's turn runs; 0 if there is no job
abbrev pub nodes_out : Option JobData → ℕ
nodes_out None = 0
nodes_out (Some job) = nodes_out_in job job.phase

-- each of these turns is held and has not run
abbrev pub AreHeld : {J : Type 0} → (J → Meaning) → World → List (TurnData J) → Type 0
AreHeld meaning w [] = ⊤
AreHeld meaning w (turn ∷ turns) =
    (turn.ran ≡ 0) × (turn.tenant < length w.config.tenants) × IsOutFor w turn.tenant turn.seq turn.slice (meaning turn.search) × AreHeld meaning w turns

-- a turn that is taken is held,
abbrev pub TakenTurnsAreHeld : Type 0
TakenTurnsAreHeld = (old new : World) (t s slice : ℕ) (m : Meaning) → IsTaken old t s slice m new → IsOutFor new t s slice m

-- and stays so over each call but its own give
abbrev pub TurnsStayHeld : Type 0
TurnsStayHeld = (old new : World) (t : ℕ) (e : Event) (answer : Answer) → Follows old t e answer new →
    (u s slice : ℕ) (m : Meaning) → IsOutFor old u s slice m → (t ≡ u → gives s e ≡ false) → IsOutFor new u s slice m

-- the farm knows the search of a turn that is held, run or unrun
abbrev pub HeldTurnsAreNoStrangers : Type 0
HeldTurnsAreNoStrangers = (w : World) (t s slice : ℕ) (m after : Meaning) → IsOutFor w t s slice m →
    (after ≡ ran_on (nodes_within slice m) m → IsStrange w.rows t s slice (nodes_within slice m) after → ⊥)
    × (IsStrange w.rows t s slice 0 m → ⊥)

-- a turn that is held runs the nodes of its job that is out
abbrev pub HeldTurnsRunTheirNodes : Type 0
HeldTurnsRunTheirNodes = (w : World) (t s slice : ℕ) (m : Meaning) → IsOutFor w t s slice m → nodes_within slice m ≡ nodes_out (find_job s (view t w).jobs)

-- a farm is where its journal leads, when it is made and after each call
pub record FarmsAreReplayed : Type 0 where
  pub made : (config : ConfigData) → IsOfJournal (opened config)
  pub kept : (old new : World) (t : ℕ) (e : Event) (answer : Answer) → IsOfJournal old → Follows old t e answer new → IsOfJournal new

-- a turn is taken of a job that was not out
abbrev pub TakenJobsWereNotOut : Type 0
TakenJobsWereNotOut = (old new : World) (t s slice : ℕ) (m : Meaning) → IsTaken old t s slice m new → is_out_of (find_job s (view t old).jobs) ≡ false

-- in such a farm a job goes out by a take alone
abbrev pub OnlyTakenJobsAreOut : Type 0
OnlyTakenJobsAreOut = (old new : World) (t : ℕ) (e : Event) (answer : Answer) → IsOfJournal old → Follows old t e answer new →
    (u s : ℕ) → is_out_of (find_job s (view u new).jobs) ≡ true →
    (is_out_of (find_job s (view u old).jobs) ≡ true) ⊎ ((t ≡ u) × (takes s e ≡ true))

-- and is out no more once its turn is back
abbrev pub GivenJobsAreNotOut : Type 0
GivenJobsAreNotOut = (old new : World) (t s ran : ℕ) (reply : Reply) → Follows old t (Give s ran) (Replied reply) new →
    is_out_of (find_job s (view t new).jobs) ≡ false
