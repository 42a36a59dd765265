-- One purse's part of a farm, and one tenant's at it.
use Rattle.std.specs.Prelude.{ℕ, zero, suc, ◌+◌, ◌-◌, min, cond, ◌==◌, List, [], ◌∷◌, length, map, filter, get_or, set, Option, Some, None, option_map}
use Rattle.std.specs.List.{sum_by}
use Rattle.mrcpsp.specs.Numbers.{first_from}
use Rattle.mrcpsp.specs.Schedule.{makespan}
use Rattle.strategy.specs.Outcome.{best_after, is_closed, verdict_after}
use Rattle.tenant_book.specs.Book.{BookData}
use Rattle.job_table.specs.Table.{JobData, is_out}
use Rattle.job_table.specs.declared.phase.Phase.{Phase}
use Rattle.job_table.specs.declared.phase.Phase.TheVariants.{Waiting, Out, Leaving, Dry, Closed, Cancelled}
use Rattle.farm_core.specs.declared.config.TenantLine.{TenantLine}
use Rattle.farm_core.specs.declared.reply.Line.{Line}
use Rattle.farm_core.specs.Config.{granted_by}

-- how many jobs are kept for a tenant at most, and how many journal entries it may use
pub record Terms : Type 0 where
  pub jobs : ℕ
  pub entries : ℕ

-- what is a tenant's own: its limits, the number of its next job, the journal entries that it has
-- used, and its jobs in the order of their numbers
pub record Member : Type 0 where
  pub terms : Terms
  pub next : ℕ
  pub used : ℕ
  pub jobs : List JobData

-- a purse: what it was granted and what it has spent, once for all members, and the members
pub record Purse : Type 0 where
  pub granted : ℕ
  pub spent : ℕ
  pub members : List Member

-- a tenant at its purse: what is its own, what the purse was granted and has spent, and what the
-- jobs of the other members hold
pub record Tenant : Type 0 where
  pub terms : Terms
  pub granted : ℕ
  pub spent : ℕ
  pub beside : ℕ
  pub next : ℕ
  pub used : ℕ
  pub jobs : List JobData

abbrev pub terms_of : TenantLine → Terms
terms_of line = record { jobs = line.jobs; entries = line.entries }

-- a member that has done nothing
abbrev pub new_member : TenantLine → Member
new_member line = record { terms = terms_of line; next = 1; used = 0; jobs = [] }

-- a purse whose members have done nothing
unfoldable pub newcomers : List TenantLine → Purse
newcomers lines = record { granted = granted_by lines; spent = 0; members = map new_member lines }

-- a tenant that has done nothing, and has its purse for itself
unfoldable pub newcomer : TenantLine → Tenant
newcomer line = record { terms = terms_of line; granted = line.quanta; spent = 0; beside = 0; next = 1; used = 0; jobs = [] }

-- what jobs hold
abbrev pub held_by : List JobData → ℕ
held_by [] = 0
held_by (job ∷ jobs) = job.left + held_by jobs

-- what the jobs of all these members hold but of the one at a place
abbrev pub held_beside : ℕ → List Member → ℕ
held_beside place [] = 0
held_beside zero (m ∷ members) = sum_by (λ (other : Member). held_by other.jobs) members
held_beside (suc place) (m ∷ members) = held_by m.jobs + held_beside place members

-- a member of a purse, at its place, as a tenant
abbrev pub seated_at : ℕ → Purse → Member → Tenant
seated_at place p m = record {
  terms = m.terms;
  granted = p.granted;
  spent = p.spent;
  beside = held_beside place p.members;
  next = m.next;
  used = m.used;
  jobs = m.jobs;
}

-- the default for a missing member: no jobs, no entries
abbrev pub no_member : Member
no_member = record { terms = record { jobs = 0; entries = 0 }; next = 1; used = 0; jobs = [] }

-- the tenant at a place of a purse
abbrev pub seat : Purse → ℕ → Tenant
seat p place = seated_at place p (get_or p.members place no_member)

abbrev pub own_of : Tenant → Member
own_of t = record { terms = t.terms; next = t.next; used = t.used; jobs = t.jobs }

-- the purse with the member at `place` replaced
abbrev pub with_seat : Purse → ℕ → Tenant → Purse
with_seat p place t = record p { spent = t.spent; members = set p.members place (own_of t) }

-- the ledger of the tenant's purse: what the jobs of all members hold, what is free and what is
-- spent
unfoldable pub held : Tenant → ℕ
held t = held_by t.jobs + t.beside

unfoldable pub free : Tenant → ℕ
free t = t.granted - held t - t.spent

unfoldable pub book : Tenant → BookData
book t = record { granted = t.granted; free = free t; held = held t; spent = t.spent }

-- the ledger of a purse
unfoldable pub ledger_of : Purse → BookData
ledger_of p =
    let holds = sum_by (λ (m : Member). held_by m.jobs) p.members in
    record { granted = p.granted; free = p.granted - holds - p.spent; held = holds; spent = p.spent }

-- how many journal entries are kept for the gives of turns that are out
unfoldable pub kept : Tenant → ℕ
kept t = length (filter (λ job. is_out job.phase) t.jobs)

-- the job of that number
abbrev pub find_job : ℕ → List JobData → Option JobData
find_job s [] = None
find_job s (job ∷ jobs) = cond (job.seq == s) (Some job) (find_job s jobs)

-- the jobs with that one changed, and without it
abbrev pub put_job : ℕ → JobData → List JobData → List JobData
put_job s new [] = []
put_job s new (job ∷ jobs) = cond (job.seq == s) (new ∷ jobs) (job ∷ put_job s new jobs)

abbrev pub drop_job : ℕ → List JobData → List JobData
drop_job s [] = []
drop_job s (job ∷ jobs) = cond (job.seq == s) jobs (job ∷ drop_job s jobs)

-- the line of a job: its best and its verdict are those of its plan after its nodes
unfoldable pub line_of : JobData → Line
line_of job = record {
  seq = job.seq;
  phase = job.phase;
  nodes = job.nodes;
  left = job.left;
  best = option_map (makespan job.plan.project) (best_after job.plan job.nodes);
  verdict = verdict_after job.plan job.nodes;
}

-- the nodes of a turn of at most `most`: fewer if its search is over before
unfoldable pub nodes_of_turn : ℕ → JobData → ℕ
nodes_of_turn most job = first_from (λ r. is_closed job.plan (job.nodes + r)) most 0

-- the nodes that a job's turn runs: as many as its slice and the job's quanta allow, or until the
-- search is over; 0 if no turn is out
abbrev pub nodes_out_in : JobData → Phase → ℕ
nodes_out_in job Waiting = 0
nodes_out_in job (Out slice) = nodes_of_turn (min slice job.left) job
nodes_out_in job (Leaving slice) = nodes_of_turn (min slice job.left) job
nodes_out_in job Dry = 0
nodes_out_in job Closed = 0
nodes_out_in job Cancelled = 0
