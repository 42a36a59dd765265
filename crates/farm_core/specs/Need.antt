-- How many nodes a job runs.
use Rattle.std.specs.Prelude.{◌≡◌, ℕ, ◌+◌, ◌<◌, ◌==◌, ◌⊎◌, ⊤, Bool, true, false, cond, List, [], ◌∷◌, ◌++◌, length, map, Some}
use Rattle.mrcpsp.specs.Numbers.{first_from}
use Rattle.strategy.specs.Outcome.{is_closed}
use Rattle.strategy.specs.declared.plan.Plan.{Plan}
use Rattle.job_table.specs.Table.{JobData}
use Rattle.job_table.specs.declared.phase.Phase.TheVariants.{Dry, Closed}
use Rattle.farm_core.specs.declared.entry.Event.{Event}
use Rattle.farm_core.specs.declared.entry.Event.TheVariants.{Submit, Fund, Cancel, Forget}
use Rattle.farm_core.specs.declared.reply.Reply.TheVariants as reply
use Rattle.farm_core.specs.Purses.{members_of}
use Rattle.farm_core.specs.Config.{ConfigData, purse_names}
use Rattle.farm_core.specs.Step.{Answer, Replied}
use Rattle.farm_core.specs.Tenant.{Tenant, seat, book, find_job, line_of}
use Rattle.farm_core.specs.World.{World, Call, Run, purse_in, purse, opened_purse, view}

-- the quanta that a call gave job s: those of its submit, and of each accepted fund
abbrev pub given_by : ℕ → Event → Answer → ℕ
given_by s (Submit plan quanta) (Replied (reply.Job n)) = cond (n == s) quanta 0
given_by s (Fund n quanta) (Replied (reply.Line line)) = cond (n == s) quanta 0
given_by s event answer = 0

-- the quanta that these calls of tenant t gave job s
abbrev pub given_to : ℕ → List Call → ℕ → ℕ
given_to t [] s = 0
given_to t (c ∷ calls) s = cond (c.tenant == t) (given_by s c.event c.answer) 0 + given_to t calls s

-- the first of 0, 1 .. `quanta` at which the search of the plan is over, or `quanta`
unfoldable pub nodes_for : Plan → ℕ → ℕ
nodes_for plan quanta = first_from (is_closed plan) quanta 0

-- the nodes of a dry or closed job are the lesser of its quanta and the nodes that its search needs
abbrev pub HasRunItsNodes : (ℕ → ℕ) → JobData → Type 0
HasRunItsNodes given job = (job.phase ≡ Dry) ⊎ (job.phase ≡ Closed) → job.nodes ≡ nodes_for job.plan (given job.seq)

-- a tenant's job of that number
abbrev pub HasJob : Tenant → JobData → Type 0
HasJob t job = find_job job.seq t.jobs ≡ Some job

-- this holds of each job in each run, whatever turns and slices there were
abbrev pub NodesAreTheLesser : Type 0
NodesAreTheLesser = (config : ConfigData) (calls : List Call) (w : World) → Run config calls w → (t : ℕ) (job : JobData) → HasJob (view t w) job →
    HasRunItsNodes (given_to t calls) job

-- the event of an accepted submit, fund, cancel or forget; no other call counts
abbrev pub accepted : Event → Answer → List Event
accepted (Submit plan quanta) (Replied (reply.Job n)) = Submit plan quanta ∷ []
accepted (Fund s quanta) (Replied (reply.Line line)) = Fund s quanta ∷ []
accepted (Cancel s) (Replied (reply.Line line)) = Cancel s ∷ []
accepted (Forget s) (Replied (reply.Forgotten n)) = Forget s ∷ []
accepted e answer = []

-- all that these calls of tenant t asked for so
abbrev pub asked_by : ℕ → List Call → List Event
asked_by t [] = []
asked_by t (c ∷ calls) = cond (c.tenant == t) (accepted c.event c.answer) [] ++ asked_by t calls

-- submits and funds alone
abbrev pub are_gifts : List Event → Bool
are_gifts [] = true
are_gifts (Submit plan quanta ∷ events) = are_gifts events
are_gifts (Fund s quanta ∷ events) = are_gifts events
are_gifts (e ∷ events) = false

-- each of these jobs is dry or closed
abbrev pub AreAtRest : List JobData → Type 0
AreAtRest [] = ⊤
AreAtRest (job ∷ jobs) = ((job.phase ≡ Dry) ⊎ (job.phase ≡ Closed)) × AreAtRest jobs

abbrev pub members_in : ConfigData → ℕ → List ℕ
members_in config p = members_of (purse_names config.tenants) p

-- it holds of each member of a purse
abbrev pub AllMembers : ConfigData → ℕ → (ℕ → Type 0) → Type 0
AllMembers config p P = (t : ℕ) → t < length config.tenants → purse_in config t ≡ p → P t

-- a member's accepted calls that count are submits and funds, and at the end its jobs are dry or
-- closed
pub record HasRested (calls : List Call) (w : World) (t : ℕ) : Type 0 where
  pub gifts : are_gifts (asked_by t calls) ≡ true
  pub rests : AreAtRest (view t w).jobs

-- two members with the same lines and the same ledger
pub record AreAlike (one other : Tenant) : Type 0 where
  pub lines : map line_of one.jobs ≡ map line_of other.jobs
  pub ledger : book one ≡ book other

-- two runs in which a purse begins alike, the accepted calls of each member that count are the same
-- submits and funds, and at the end all its jobs are dry or closed, end alike for its members,
-- whatever turns, slices and refusals there were
abbrev pub EachEndsAlike : Type 0
EachEndsAlike = (config elsewhere : ConfigData) (calls others : List Call) (w x : World) → Run config calls w → Run elsewhere others x →
    (p q : ℕ) → opened_purse config p ≡ opened_purse elsewhere q →
    AllMembers config p (HasRested calls w) → AllMembers elsewhere q (HasRested others x) →
    map (λ t. asked_by t calls) (members_in config p) ≡ map (λ u. asked_by u others) (members_in elsewhere q) →
    (place : ℕ) → place < length (members_in config p) → AreAlike (seat (purse p w) place) (seat (purse q x) place)
