-- Turns: a job's search in the hands of a worker.
use Rattle.std.specs.Prelude.{◌≡◌, ◌⊎◌, ℕ, ◌<◌, true, false, length, Some, slice_get}
use Rattle.strategy.specs.Search.{Meaning, ran_on, nodes_within}
use Rattle.job_table.specs.Table.{JobData, find_row, is_waiting, without, waiting_then, AreWaiting}
use Rattle.job_table.specs.Job.{gone_out, meaning_of, back, IsOwn}
use Rattle.farm_core.specs.declared.entry.Event.TheVariants.{Take, Give}
use Rattle.farm_core.specs.declared.reply.Reply.{Reply}
use Rattle.farm_core.specs.declared.reply.NoTurn.{NoTurn}
use Rattle.farm_core.specs.declared.reply.NoTurn.TheVariants as no_turn
use Rattle.farm_core.specs.Tenant.{find_job, line_of}
use Rattle.farm_core.specs.Step as step
use Rattle.farm_core.specs.Step.{Replied, Sent, is_slice, has_room}
use Rattle.farm_core.specs.World.{World, table_of, view, Follows}

-- the tenant and number of a turn's job, the most nodes, the nodes that it has run, and the search
pub record TurnData (J : Type 0) : Type 0 where
  pub tenant : ℕ
  pub seq : ℕ
  pub slice : ℕ
  pub ran : ℕ
  pub search : J

-- a turn has run no node yet, or all that it could; and the best schedule is still with its search
pub record IsTurn (slice ran : ℕ) (m : Meaning) : Type 0 where
  pub best : m.taken ≡ false
  pub start : Meaning
  pub after : m ≡ ran_on ran start
  pub all : (ran ≡ 0) ⊎ (ran ≡ nodes_within slice start)

-- a turn was taken: the search is that of a job that waited, and the call makes its step
pub record IsTaken (old : World) (t s slice : ℕ) (m : Meaning) (new : World) : Type 0 where
  pub job : JobData
  pub found : find_job s (view t old).jobs ≡ Some job
  pub search : m ≡ meaning_of t job
  pub turns : new.waiting ≡ without t s old.waiting
  pub follows : Follows old t (Take s slice) (Sent (line_of (gone_out slice job))) new

-- none was: the call follows, or there was no memory, and nothing has changed
abbrev pub IsNotTaken : World → ℕ → ℕ → ℕ → NoTurn → World → Type 0
IsNotTaken old t s slice no_turn.None new = Follows old t (Take s slice) step.NoTurn new
IsNotTaken old t s slice no_turn.NoMemory new = new ≡ old

-- a turn came back to its job, which waits behind all others if it waits again
pub record IsGiven (old : World) (t s slice ran : ℕ) (m : Meaning) (answer : Reply) (new : World) : Type 0 where
  pub job : JobData
  pub found : find_row t s old.rows ≡ Some job
  pub own : IsOwn t slice ran m job
  pub turns : new.waiting ≡ waiting_then t s false (is_waiting (back ran job).phase) old.waiting
  pub follows : Follows old t (Give s ran) (Replied answer) new

-- there is no turn to take: the slice is not 1 to 1,000,000, or no waiting job is of a tenant with
-- entries for a turn
abbrev pub IsIdle : World → ℕ → Type 0
IsIdle w slice =
    (is_slice slice ≡ false)
    ⊎ ((t s : ℕ) (job : JobData) → find_job s (view t w).jobs ≡ Some job → is_waiting job.phase ≡ true → has_room 2 (view t w) ≡ false)

-- a job of which a turn can be taken
pub record IsReady (w : World) (t s slice : ℕ) : Type 0 where
  pub job : JobData
  pub known : t < length w.config.tenants
  pub found : find_job s (view t w).jobs ≡ Some job
  pub waits : is_waiting job.phase ≡ true
  pub slice_is : is_slice slice ≡ true
  pub room : has_room 2 (view t w) ≡ true

-- the first of these in the queue, in which each waiting job is once: no waiting job before it is
-- of a tenant with entries for a turn
pub record IsFirstReady (w : World) (t s slice : ℕ) : Type 0 where
  pub ready : IsReady w t s slice
  pub each : AreWaiting (table_of w)
  pub at : ℕ
  pub here : slice_get w.waiting at ≡ Some (t, s)
  pub before : (j u n : ℕ) → j < at → slice_get w.waiting j ≡ Some (u, n) → has_room 2 (view u w) ≡ false
