-- What a farm keeps.
use Rattle.std.specs.Prelude.{◌≡◌, ◌⊎◌, ℕ, ◌+◌, ◌<◌, ◌≤◌, List, [], ◌∷◌, length, map, true, false, Option, Some, None, ⊤, IsTrue, slice_get}
use Rattle.std.specs.List.{range_with_len}
use Rattle.job_table.specs.Table.{Row, JobData, find_row}
use Rattle.job_table.specs.Job.{is_here}
use Rattle.job_table.specs.declared.phase.Phase.{Phase}
use Rattle.job_table.specs.declared.phase.Phase.TheVariants.{Waiting, Out, Leaving, Dry, Closed, Cancelled}
use Rattle.farm_core.specs.declared.account.Account.{Account}
use Rattle.farm_core.specs.declared.entry.Event.{Event}
use Rattle.farm_core.specs.declared.reply.Reply.{Reply}
use Rattle.farm_core.specs.declared.reply.Reply.TheVariants as reply
use Rattle.farm_core.specs.Config.{ConfigData, is_config}
use Rattle.farm_core.specs.Tenant.{Tenant, book}
use Rattle.farm_core.specs.Step.{Replied, has_room}
use Rattle.farm_core.specs.World.{World, Call, Run, purse_in, purses_in, account_of, view, Follows, IsOfJournal}
use Rattle.farm_core.specs.Truth.{ArePlanned}

-- the entries that a job may still need without asking for memory: one for a cancel, one for a give
abbrev pub owed_in : Phase → ℕ
owed_in Waiting = 1
owed_in (Out slice) = 2
owed_in (Leaving slice) = 1
owed_in Dry = 1
owed_in Closed = 0
owed_in Cancelled = 0

abbrev pub owed : List Row → ℕ
owed [] = 0
owed (row ∷ rows) = owed_in row.job.phase + owed rows

-- an account tells what its tenant's part of the world is
pub record IsAccount (t : Tenant) (a : Account) : Type 0 where
  pub book : a.book ≡ book t
  pub next : a.next ≡ t.next
  pub used : a.used ≡ t.used

-- these rows stand by their tenants' numbers, from this one on
abbrev pub AreFrom : ℕ → List Row → Type 0
AreFrom t [] = ⊤
AreFrom t (row ∷ rows) = (t ≤ row.tenant) × AreFrom row.tenant rows

-- each of these rows is of one of the first `count` tenants
abbrev pub AreOf : ℕ → List Row → Type 0
AreOf count [] = ⊤
AreOf count (row ∷ rows) = (row.tenant < count) × AreOf count rows

-- a job that waits or is dry has its search with it, and no other has
abbrev pub AreAtHome : List Row → Type 0
AreAtHome rows = (t s : ℕ) (job : JobData) → find_row t s rows ≡ Some job → job.here ≡ is_here job.phase

-- a run of calls leads to it from the opened farm, and each submit of it was of a project
pub record IsReached (w : World) : Type 0 where
  pub calls : List Call
  pub run : Run w.config calls w
  pub planned : ArePlanned calls

-- the number of each tenant's purse
abbrev pub purse_numbers : ConfigData → List ℕ
purse_numbers config = map (purse_in config) (range_with_len 0 (length config.tenants))

-- each tenant has its account; each purse is where its entries lead; a run leads to the whole; the
-- journal has room for all owed entries; rows are in order of tenants
pub record IsFarm (w : World) (capacity : ℕ) : Type 0 where
  pub count : length w.numbers ≡ length w.config.tenants
  pub ledgers : length w.books ≡ purses_in w.config
  pub each : (t : ℕ) → t < length w.numbers → IsAccount (view t w) (account_of w t)
  pub room : length w.journal + owed w.rows ≤ capacity
  pub replayed : IsOfJournal w
  pub reached : IsReached w
  pub whose : AreOf (length w.numbers) w.rows
  pub order : AreFrom 0 w.rows
  pub config : IsTrue (is_config w.config)

-- the key is in the queue, and all up to it are of tenants with no entries for a turn
abbrev pub IsPassed : World → ℕ × ℕ → List (ℕ × ℕ) → Type 0
IsPassed w key [] = ⊥
IsPassed w key (first ∷ keys) = (has_room 2 (view first.0 w) ≡ false) × ((first ≡ key) ⊎ IsPassed w key keys)

-- if there is a key, the queue is passed up to it
abbrev pub ArePassed : World → Option (ℕ × ℕ) → Type 0
ArePassed w None = ⊤
ArePassed w (Some key) = IsPassed w key w.waiting

-- `next` is the job at some place of the queue, `count` or later, or none; all jobs before that
-- place are of tenants with no entries for a turn
pub record IsNext (w : World) (count : ℕ) (next : Option (ℕ × ℕ)) : Type 0 where
  pub at : ℕ
  pub least : count ≤ at
  pub here : next ≡ slice_get w.waiting at
  pub before : (j u n : ℕ) → j < at → slice_get w.waiting j ≡ Some (u, n) → has_room 2 (view u w) ≡ false

-- the call makes its tenant's step with this reply; or there was room but no memory, and nothing
-- has changed
abbrev pub IsReply : World → ℕ → Event → Reply → World → Type 0
IsReply old t event reply.NoMemory new = (new ≡ old) × (has_room 1 (view t old) ≡ true)
IsReply old t event answer new = Follows old t event (Replied answer) new
