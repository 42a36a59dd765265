-- The rows of all tenants' jobs: a finite map, as a list in the order of tenants and numbers; and
-- the queue.
use Rattle.std.specs.Prelude.{◌≡◌, ℕ, Bool, true, false, cond, ◌&&◌, ◌||◌, ◌==◌, List, [], ◌∷◌, ◌++◌, map, filter, length, Option, Some, None}
use Rattle.std.specs.Prelude.{nat_lt}
use Rattle.strategy.specs.declared.plan.Plan.{Plan}
use Rattle.job_table.specs.declared.phase.Phase.{Phase}
use Rattle.job_table.specs.declared.phase.Phase.TheVariants.{Waiting, Out, Leaving, Dry, Closed, Cancelled}

-- a job: its number, plan and phase, the nodes that were paid, the quanta that it holds, and
-- whether its search is with it
pub record JobData : Type 0 where
  pub seq : ℕ
  pub plan : Plan
  pub phase : Phase
  pub nodes : ℕ
  pub left : ℕ
  pub here : Bool

-- a job with its tenant
pub record Row : Type 0 where
  pub tenant : ℕ
  pub job : JobData

-- whether a row is that of tenant t's job s
abbrev pub is_row : ℕ → ℕ → Row → Bool
is_row t s row = (row.tenant == t) && (row.job.seq == s)

-- whether a turn may be taken in this phase
abbrev pub is_waiting : Phase → Bool
is_waiting Waiting = true
is_waiting (Out slice) = false
is_waiting (Leaving slice) = false
is_waiting Dry = false
is_waiting Closed = false
is_waiting Cancelled = false

-- whether a worker holds the turn in this phase
abbrev pub is_out : Phase → Bool
is_out Waiting = false
is_out (Out slice) = true
is_out (Leaving slice) = true
is_out Dry = false
is_out Closed = false
is_out Cancelled = false

-- whether the job has ended in this phase
abbrev pub is_ended : Phase → Bool
is_ended Waiting = false
is_ended (Out slice) = false
is_ended (Leaving slice) = false
is_ended Dry = false
is_ended Closed = true
is_ended Cancelled = true

-- the job of tenant t and number s
abbrev pub find_row : ℕ → ℕ → List Row → Option JobData
find_row t s [] = None
find_row t s (row ∷ rows) = cond (is_row t s row) (Some row.job) (find_row t s rows)

-- the rows with that job replaced
abbrev pub put_row : ℕ → ℕ → JobData → List Row → List Row
put_row t s new [] = []
put_row t s new (row ∷ rows) = cond (is_row t s row) (record { tenant = t; job = new } ∷ rows) (row ∷ put_row t s new rows)

-- the rows without that job
abbrev pub drop_row : ℕ → ℕ → List Row → List Row
drop_row t s [] = []
drop_row t s (row ∷ rows) = cond (is_row t s row) rows (row ∷ drop_row t s rows)

-- a tenant's jobs, in the order of the rows
abbrev pub jobs_of : ℕ → List Row → List JobData
jobs_of t rows = map (λ (row : Row). row.job) (filter (λ row. row.tenant == t) rows)

-- whether `(t, s)` comes before a row: by the tenant, and then by the number
abbrev pub comes_before : ℕ → ℕ → Row → Bool
comes_before t s row = nat_lt t row.tenant || ((t == row.tenant) && nat_lt s row.job.seq)

-- the rows with one more, in its place among them
abbrev pub add_row : Row → List Row → List Row
add_row new [] = new ∷ []
add_row new (row ∷ rows) = cond (comes_before new.tenant new.job.seq row) (new ∷ row ∷ rows) (row ∷ add_row new rows)

-- no two jobs of a tenant have equal numbers
abbrev pub AreApart : List Row → Type 0
AreApart [] = Unit {0}
AreApart (row ∷ rows) = (find_row row.tenant row.job.seq rows ≡ None) × AreApart rows

-- a table: the rows, and the queue of tenants and numbers, in the order of their turns
pub record TableData : Type 0 where
  pub rows : List Row
  pub waiting : List (ℕ × ℕ)

-- whether a key is `(t, s)`
abbrev pub is_key : ℕ → ℕ → ℕ × ℕ → Bool
is_key t s key = (t == key.0) && (s == key.1)

-- the keys without the first that is `(t, s)`
abbrev pub without : ℕ → ℕ → List (ℕ × ℕ) → List (ℕ × ℕ)
without t s [] = []
without t s (key ∷ keys) = cond (is_key t s key) keys (key ∷ without t s keys)

-- the first of the keys
abbrev pub first_of : List (ℕ × ℕ) → Option (ℕ × ℕ)
first_of [] = None
first_of (key ∷ keys) = Some key

-- the key behind that of `(t, s)`
abbrev pub behind : ℕ → ℕ → List (ℕ × ℕ) → Option (ℕ × ℕ)
behind t s [] = None
behind t s (key ∷ keys) = cond (is_key t s key) (first_of keys) (behind t s keys)

-- the queue after a job has changed: one that begins to wait is last, one that waits no longer is
-- gone, and all others keep their places
abbrev pub waiting_then : ℕ → ℕ → Bool → Bool → List (ℕ × ℕ) → List (ℕ × ℕ)
waiting_then t s was is keys = cond is (cond was keys (keys ++ (t, s) ∷ [])) (cond was (without t s keys) keys)

-- a tenant's job is added
abbrev pub add_job : ℕ → JobData → TableData → TableData
add_job t job table =
    record { rows = add_row (record { tenant = t; job = job }) table.rows; waiting = waiting_then t job.seq false (is_waiting job.phase) table.waiting }

-- a tenant's job is replaced
abbrev pub change_job : ℕ → ℕ → JobData → JobData → TableData → TableData
change_job t s job then table =
    record { rows = put_row t s then table.rows; waiting = waiting_then t s (is_waiting job.phase) (is_waiting then.phase) table.waiting }

-- a tenant's job is removed
abbrev pub drop_job : ℕ → ℕ → TableData → TableData
drop_job t s table = record { rows = drop_row t s table.rows; waiting = without t s table.waiting }

-- whether a job is there and waits
abbrev pub does_wait : Option JobData → Bool
does_wait None = false
does_wait (Some job) = is_waiting job.phase

-- a waiting job is in the queue once, and any other job is not
abbrev pub AreWaiting : TableData → Type 0
AreWaiting table = (t s : ℕ) → length (filter (is_key t s) table.waiting) ≡ cond (does_wait (find_row t s table.rows)) 1 0
