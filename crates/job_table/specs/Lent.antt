-- What the table lends of a job, and how a job is changed in it.
use Rattle.std.specs.Prelude.{◌≡◌, ℕ, Bool, true, false, cond, List, Option, Some, None, is_some, IfSome}
use Rattle.quanta_till.specs.Lease.{LeaseValue, after_draw}
use Rattle.strategy.specs.Outcome.{is_closed}
use Rattle.strategy.specs.Search.{Meaning, funded}
use Rattle.strategy.specs.declared.plan.Plan.{Plan}
use Rattle.job_table.specs.Table.{JobData, Row, TableData, find_row, change_job}
use Rattle.job_table.specs.declared.phase.Phase.{Phase}

-- a job without its number and its phase: its plan, the nodes that were paid, the quanta that it
-- holds, and its search if that is with it
pub record WorkData (J : Type 0) : Type 0 where
  pub plan : Plan
  pub nodes : ℕ
  pub left : ℕ
  pub search : Option J

-- what a tenant's search means with this work
abbrev pub search_of : {J : Type 0} → ℕ → WorkData J → Meaning
search_of tenant work = record { tenant = tenant; plan = work.plan; nodes = work.nodes; left = work.left; taken = false }

-- the work has no search of a tenant's that goes on: none, another one, or one that is over
abbrev pub LacksOwn : {J : Type 0} → (J → Meaning) → ℕ → WorkData J → Type 0
LacksOwn meaning tenant work = IfSome work.search (λ search. meaning search ≡ search_of tenant work → is_closed work.plan work.nodes ≡ true)

-- quanta were drawn for a search, on the lease that it has, and it did nothing else
abbrev pub HasDrawn : {J : Type 0} → (J → Meaning) → (J → LeaseValue) → ℕ → Option J → Option J → Type 0
HasDrawn meaning lease quanta (Some old) (Some new) = (meaning new ≡ funded quanta (meaning old)) × (lease new ≡ after_draw (lease old) quanta)
HasDrawn meaning lease quanta old new = ⊥

-- the work once this search is back, which is kept, or dropped with its quanta
abbrev pub returned : {J : Type 0} → Bool → J → Meaning → WorkData J → WorkData J
returned keep search m work = record work { nodes = m.nodes; left = cond keep m.left 0; search = cond keep (Some search) None }

-- a job with other work
abbrev pub with_work : {J : Type 0} → WorkData J → JobData → JobData
with_work work job = record job { plan = work.plan; nodes = work.nodes; left = work.left; here = is_some work.search }

-- a job in another phase
abbrev pub in_phase : Phase → JobData → JobData
in_phase phase job = record job { phase = phase }

-- the table with the job that was found changed, if there is one
abbrev pub changed_if : ℕ → ℕ → (JobData → JobData) → Option JobData → TableData → TableData
changed_if t s change None table = table
changed_if t s change (Some job) table = change_job t s job (change job) table

-- the table with the job of tenant t and number s changed, if there is one
abbrev pub change_found : ℕ → ℕ → (JobData → JobData) → TableData → TableData
change_found t s change table = changed_if t s change (find_row t s table.rows) table

-- the job of tenant t and number s is there, and this is its work
pub record IsLent {J : Type 0} (rows : List Row) (t s : ℕ) (work : WorkData J) : Type 0 where
  pub job : JobData
  pub found : find_row t s rows ≡ Some job
  pub lent : with_work work job ≡ job
