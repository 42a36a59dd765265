-- What a job keeps, and what a turn of it does.
use Rattle.std.specs.Prelude.{◌≡◌, ℕ, ◌+◌, ◌-◌, ◌==◌, Bool, true, false, cond, List, length, IsTrue, Option, Some, None, option_map}
use Rattle.mrcpsp.specs.Project.{size, is_project}
use Rattle.mrcpsp.specs.Schedule.{ScheduleData, makespan}
use Rattle.strategy.specs.Outcome.{best_after, is_closed, verdict_after}
use Rattle.strategy.specs.Search.{Meaning}
use Rattle.strategy.specs.declared.plan.Plan.{Plan}
use Rattle.strategy.specs.declared.verdict.Verdict.{Verdict}
use Rattle.job_table.specs.Table.{JobData, Row, TableData, find_row, change_job}
use Rattle.job_table.specs.declared.phase.Phase.{Phase}
use Rattle.job_table.specs.declared.phase.Phase.TheVariants.{Waiting, Out, Leaving, Dry, Closed, Cancelled}
use Rattle.job_table.specs.declared.best.Best.{Best}

-- the best schedule, if one was found
abbrev pub best_in : Best → Option ScheduleData
best_in b = cond b.found (Some b.schedule) None

-- memory for a schedule of n activities
pub record HasSize (n : ℕ) (s : ScheduleData) : Type 0 where
  pub modes : length s.modes ≡ n
  pub starts : length s.starts ≡ n

-- whether the search is with its job in this phase
abbrev pub is_here : Phase → Bool
is_here Waiting = true
is_here (Out slice) = false
is_here (Leaving slice) = false
is_here Dry = true
is_here Closed = false
is_here Cancelled = false

-- a project is planned; the best schedule, its makespan and the verdict are those of the plan after
-- these nodes
pub record IsSound (plan : Plan) (nodes : ℕ) (best : Best) (shortest : Option ℕ) (verdict : Verdict) : Type 0 where
  pub planned : IsTrue (is_project plan.project)
  pub shows : best_in best ≡ best_after plan nodes
  pub lasts : shortest ≡ option_map (makespan plan.project) (best_after plan nodes)
  pub sized : HasSize (size plan.project) best.schedule
  pub judges : verdict ≡ verdict_after plan nodes

-- whether a turn for at most `slice` nodes is out
abbrev pub is_turn : ℕ → Phase → Bool
is_turn slice Waiting = false
is_turn slice (Out s) = s == slice
is_turn slice (Leaving s) = s == slice
is_turn slice Dry = false
is_turn slice Closed = false
is_turn slice Cancelled = false

-- a tenant's search for a plan, which has run and holds nothing
abbrev pub fresh_search : ℕ → Plan → Meaning
fresh_search tenant plan = record { tenant = tenant; plan = plan; nodes = 0; left = 0; taken = false }

-- what the search of a tenant's job means
abbrev pub meaning_of : ℕ → JobData → Meaning
meaning_of tenant job = record { tenant = tenant; plan = job.plan; nodes = job.nodes; left = job.left; taken = false }

-- the job once its search has gone out, for a turn of at most `slice` nodes
abbrev pub gone_out : ℕ → JobData → JobData
gone_out slice job = record job { phase = Out slice; here = false }

-- the job after a cancel; none if it has already ended
abbrev pub given_up : JobData → Phase → Option JobData
given_up job Waiting = Some (record job { phase = Cancelled; left = 0; here = false })
given_up job (Out slice) = Some (record job { phase = Leaving slice })
given_up job (Leaving slice) = None
given_up job Dry = Some (record job { phase = Cancelled; left = 0; here = false })
given_up job Closed = None
given_up job Cancelled = None

-- a job's phase once its turn is back: cancelled if it was leaving, closed if its search is over,
-- dry without quanta, and else waiting
abbrev pub phase_after : Phase → Bool → ℕ → Phase
phase_after (Leaving slice) closed left = Cancelled
phase_after phase closed left = cond closed Closed (cond (left == 0) Dry Waiting)

-- a job whose search is back: depending on the phase it keeps the search with its quanta, or
-- neither
abbrev pub settled : JobData → Phase → JobData
settled job phase = record job { phase = phase; left = cond (is_here phase) job.left 0; here = is_here phase }

-- the job after a turn of `ran` nodes, whose search is back
abbrev pub back : ℕ → JobData → JobData
back ran job =
    settled (record job { nodes = job.nodes + ran; left = job.left - ran })
    (phase_after job.phase (is_closed job.plan (job.nodes + ran)) (job.left - ran))

-- the search is this job's, after `ran` nodes of a turn for at most `slice`
pub record IsOwn (tenant slice ran : ℕ) (m : Meaning) (job : JobData) : Type 0 where
  pub turn : is_turn slice job.phase ≡ true
  pub owner : m.tenant ≡ tenant
  pub plan : m.plan ≡ job.plan
  pub nodes : m.nodes ≡ job.nodes + ran
  pub left : m.left + ran ≡ job.left

-- in the table, the search of a waiting job goes out
pub record IsSent (old : TableData) (t s slice : ℕ) (m : Meaning) (new : TableData) : Type 0 where
  pub job : JobData
  pub found : find_row t s old.rows ≡ Some job
  pub waits : job.phase ≡ Waiting
  pub going : is_closed job.plan job.nodes ≡ false
  pub search : m ≡ meaning_of t job
  pub after : new ≡ change_job t s job (gone_out slice job) old

-- in the table, the search of a job comes back
pub record IsBack (old : TableData) (t s slice ran : ℕ) (m : Meaning) (new : TableData) : Type 0 where
  pub job : JobData
  pub found : find_row t s old.rows ≡ Some job
  pub own : IsOwn t slice ran m job
  pub after : new ≡ change_job t s job (back ran job) old

-- no row has a job whose search it is
abbrev pub IsStrange : List Row → ℕ → ℕ → ℕ → ℕ → Meaning → Type 0
IsStrange rows t s slice ran m = (job : JobData) → find_row t s rows ≡ Some job → IsOwn t slice ran m job → ⊥

-- in the table, a job whose search is with it has further quanta, and waits
pub record IsFunded (old : TableData) (t s quanta : ℕ) (new : TableData) : Type 0 where
  pub job : JobData
  pub found : find_row t s old.rows ≡ Some job
  pub here : is_here job.phase ≡ true
  pub after : new ≡ change_job t s job (record job { phase = Waiting; left = job.left + quanta }) old

-- in the table, a job that has not ended is cancelled
pub record IsGivenUp (old : TableData) (t s : ℕ) (new : TableData) : Type 0 where
  pub job : JobData
  pub then : JobData
  pub found : find_row t s old.rows ≡ Some job
  pub gone : given_up job job.phase ≡ Some then
  pub after : new ≡ change_job t s job then old
