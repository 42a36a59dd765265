-- What a table keeps of itself that contracts do not see.
use Rattle.std.specs.Prelude.{◌≡◌, ℕ, ◌+◌, ◌-◌, ◌^◌, ◌≤◌, Bool, cond, List, [], ◌∷◌, Option, Some, None, nat_eq, filter, length}
use Rattle.std.specs.Map.{lookup}
use Rattle.job_table.specs.Table.{JobData, Row, TableData, is_key, is_waiting, is_out, add_row, drop_row, jobs_of, AreWaiting}
use Rattle.job_table.specs.Queue.{jobs_in, line_of, IsLinked}
use Rattle.job_table.specs.declared.counts.Counts.{Counts}
use Rattle.job_table.specs.declared.phase.Phase.{Phase}
use Rattle.job_table.specs.declared.queue.Linked.{Linked}
use Rattle.job_table.specs.declared.queue.Queue.{Queue}

-- an entry of the map, as a row: the job under its key
abbrev pub row_of : (ℕ × ℕ) × JobData → Row
row_of entry = record { tenant = entry.0.0; job = record entry.1 { seq = entry.0.1 } }

-- the entries as rows, in the order of tenants and numbers, whatever their order in the map
abbrev pub rows_of : List ((ℕ × ℕ) × JobData) → List Row
rows_of [] = []
rows_of (entry ∷ entries) = add_row (row_of entry) (drop_row entry.0.0 entry.0.1 (rows_of entries))

-- each job has its own number as its key
abbrev pub AreNamed : List ((ℕ × ℕ) × JobData) → Type 0
AreNamed entries = (t s : ℕ) (job : JobData) → lookup (is_key t s) entries ≡ Some job → job.seq ≡ s

-- how many jobs a tenant has, and how many of their turns are out
abbrev pub counts_of : ℕ → List Row → Counts
counts_of t rows = record { kept = length (jobs_of t rows); out = length (filter (λ job. is_out job.phase) (jobs_of t rows)) }

-- the counts that were found, or none
abbrev pub counted : Option Counts → Counts
counted None = record { kept = 0; out = 0 }
counted (Some counts) = counts

-- the counts after a job's turn has gone out or come back
abbrev pub moved : Bool → Bool → Counts → Counts
moved was is counts = cond is (cond was counts (record counts { out = counts.out + 1 })) (cond was (record counts { out = counts.out - 1 }) counts)

-- the counts with one job more, whose turn is out or not
abbrev pub one_more : Bool → Counts → Counts
one_more out counts = record { kept = counts.kept + 1; out = cond out (counts.out + 1) counts.out }

-- the counts with one job less, whose turn was out or not
abbrev pub one_less : Bool → Counts → Counts
one_less out counts = record { kept = counts.kept - 1; out = cond out (counts.out - 1) counts.out }

-- the counts are those of the rows
abbrev pub AreCounted : List (ℕ × Counts) → List Row → Type 0
AreCounted entries rows = (t : ℕ) → counted (lookup (nat_eq t) entries) ≡ counts_of t rows

-- the queue has exactly the jobs that wait, and the jobs can be counted
pub record IsKept (table : TableData) : Type 0 where
  pub waiting : AreWaiting table
  pub count : length table.waiting ≡ length (filter (λ (row : Row). is_waiting row.job.phase) table.rows)
  pub few : length table.rows ≤ 2 ^ 63

-- the jobs, the counts and the queue agree
pub record IsHeld (jobs : List ((ℕ × ℕ) × JobData)) (counts : List (ℕ × Counts)) (waiting : List (ℕ × ℕ)) : Type 0 where
  pub named : AreNamed jobs
  pub counted : AreCounted counts (rows_of jobs)
  pub kept : IsKept (record { rows = rows_of jobs; waiting = waiting })

-- the jobs of a map, the counts and the linked queue agree
pub record IsTable {J : Type 0} (entries : List ((ℕ × ℕ) × Linked J)) (counts : List (ℕ × Counts)) (queue : Queue) : Type 0 where
  pub held : IsHeld (jobs_in entries) counts (line_of entries queue)
  pub linked : IsLinked entries queue (line_of entries queue)

-- the table that a map and a queue are
abbrev pub whole : {J : Type 0} → List ((ℕ × ℕ) × Linked J) → Queue → TableData
whole entries queue = record { rows = rows_of (jobs_in entries); waiting = line_of entries queue }

-- in the map, job `(t, s)` has moved from phase `was` to `is`; the counts and the queue are still
-- as before
pub record IsChanging {J : Type 0} (t s : ℕ) (was is : Phase) (entries : List ((ℕ × ℕ) × Linked J))
    (counts : List (ℕ × Counts)) (queue : Queue) : Type 0 where
  pub before : List ((ℕ × ℕ) × Linked J)
  pub old : Linked J
  pub then : JobData
  pub table : IsTable before counts queue
  pub found : lookup (is_key t s) before ≡ Some old
  pub written : (u n : ℕ) → lookup (is_key u n) entries
      ≡ cond (is_key t s (u, n)) (Some (record old { job = then })) (lookup (is_key u n) before)
  pub named : then.seq ≡ old.job.seq
  pub stood : old.job.phase ≡ was
  pub stands : then.phase ≡ is
