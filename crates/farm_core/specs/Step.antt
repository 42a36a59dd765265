-- What each of the nine calls of a tenant does: one of five effects, decided by the tenant's view
-- alone.
use Rattle.std.specs.Prelude.{ℕ, ◌+◌, Bool, not, ◌&&◌, ◌||◌, ◌==◌, true, nat_le, nat_lt, List, [], ◌∷◌, ◌++◌, length, if◌then◌else◌, Option, Some, None, option_map}
use Rattle.mrcpsp.specs.Schedule.{makespan}
use Rattle.strategy.specs.Outcome.{best_after, verdict_after}
use Rattle.strategy.specs.declared.plan.Plan.{Plan}
use Rattle.job_table.specs.Table.{JobData, is_waiting, is_out, is_ended}
use Rattle.job_table.specs.Job.{gone_out, given_up, back}
use Rattle.job_table.specs.declared.phase.Phase.{Phase}
use Rattle.job_table.specs.declared.phase.Phase.TheVariants.{Waiting}
use Rattle.farm_core.specs.declared.config.TheConstants.{MOST_QUANTA, MOST_SLICE}
use Rattle.farm_core.specs.declared.entry.Event.{Event}
use Rattle.farm_core.specs.declared.entry.Event.TheVariants.{Submit, Fund, Status, Fetch, Cancel, Forget, Ledger, Take, Give}
use Rattle.farm_core.specs.declared.reply.Line.{Line}
use Rattle.farm_core.specs.declared.reply.Reply.{Reply}
use Rattle.farm_core.specs.declared.reply.Reply.TheVariants as reply
use Rattle.farm_core.specs.Tenant.{Tenant, book, free, kept, find_job, put_job, drop_job, line_of, nodes_out_in}

-- a command and a give are replied to; a turn that is taken is sent with its job; or there is no
-- turn
pub data Answer : Type 0 where
  Replied : (reply : Reply) → Answer
  Sent : (line : Line) → Answer
  NoTurn : Answer

pub record Step : Type 0 where
  pub answer : Answer
  pub after : Tenant

-- ---- effects

-- no change; a journal entry only; an entry and a new job; an entry, and the job is replaced after
-- `ran` more nodes; an entry, and the job is removed
pub data Effect : Type 0 where
  Nothing : (answer : Answer) → Effect
  Notes : (answer : Reply) → Effect
  Adds : (job : JobData) → Effect
  Changes : (job : JobData) → (ran : ℕ) → (answer : Answer) → Effect
  Drops : (seq : ℕ) → Effect

-- each node costs the purse a quantum; all else is the tenant's own
abbrev pub done : Tenant → Effect → Step
done t (Nothing answer) = record { answer = answer; after = t }
done t (Notes answer) = record { answer = Replied answer; after = record t { used = t.used + 1 } }
done t (Adds job) = record { answer = Replied (reply.Job job.seq); after = record t { used = t.used + 1; next = t.next + 1; jobs = t.jobs ++ job ∷ [] } }
done t (Changes job ran answer) = record { answer = answer; after = record t { spent = t.spent + ran; used = t.used + 1; jobs = put_job job.seq job t.jobs } }
done t (Drops seq) = record { answer = Replied (reply.Forgotten seq); after = record t { used = t.used + 1; jobs = drop_job seq t.jobs } }

-- ---- refusals

-- the refusal of the first of these causes that holds, or else the effect
abbrev pub unless : List (Bool × Reply) → Effect → Effect
unless [] effect = effect
unless (cause ∷ causes) effect = if cause.0 then Notes cause.1 else unless causes effect

-- ---- what is asked

-- whether n more entries of the journal are free, beside those that are kept for gives
abbrev pub has_room : ℕ → Tenant → Bool
has_room n t = nat_le (t.used + kept t + n) t.terms.entries

-- at least one quantum, and no more than a purse may have
abbrev pub is_amount : ℕ → Bool
is_amount quanta = nat_lt 0 quanta && nat_le quanta MOST_QUANTA

-- at least one node, and no more than a turn may have
abbrev pub is_slice : ℕ → Bool
is_slice slice = nat_lt 0 slice && nat_le slice MOST_SLICE

-- ---- what each call about a known job does

-- a job for a plan, with its search and some quanta
abbrev pub fresh_job : Tenant → Plan → ℕ → JobData
fresh_job t plan quanta = record { seq = t.next; plan = plan; phase = Waiting; nodes = 0; left = quanta; here = true }

unfoldable pub to_submit : Tenant → Plan → ℕ → Effect
to_submit t plan quanta = unless
    ((not (is_amount quanta), reply.NoAmount)
    ∷ (not (nat_lt (length t.jobs) t.terms.jobs), reply.NoJobs)
    ∷ (not (nat_le quanta (free t)), reply.NoShort (free t))
    ∷ [])
    (Adds (fresh_job t plan quanta))

unfoldable pub to_fund : Tenant → ℕ → JobData → Effect
to_fund t quanta job = unless
    ((is_out job.phase, reply.NoBusy)
    ∷ (is_ended job.phase, reply.NoOver)
    ∷ (not (is_amount quanta), reply.NoAmount)
    ∷ (not (nat_le quanta (free t)), reply.NoShort (free t))
    ∷ [])
    (let new : JobData = record job { phase = Waiting; left = job.left + quanta } in Changes new 0 (Replied (reply.Line (line_of new))))

unfoldable pub to_fetch : JobData → Effect
to_fetch job = unless ((is_out job.phase, reply.NoBusy) ∷ [])
    (let best = best_after job.plan job.nodes in
    Notes (reply.Best job.seq best (option_map (makespan job.plan.project) best) (verdict_after job.plan job.nodes)))

abbrev pub to_stand : Option JobData → Effect
to_stand None = Notes reply.NoOver
to_stand (Some new) = Changes new 0 (Replied (reply.Line (line_of new)))

unfoldable pub to_cancel : JobData → Effect
to_cancel job = to_stand (given_up job job.phase)

unfoldable pub to_forget : JobData → Effect
to_forget job = unless ((not (is_ended job.phase), reply.NoBusy) ∷ []) (Drops job.seq)

abbrev pub to_take : Tenant → ℕ → JobData → Effect
to_take t slice job = if is_waiting job.phase && is_slice slice && has_room 2 t
    then (let new : JobData = gone_out slice job in Changes new 0 (Sent (line_of new)))
    else Nothing NoTurn

-- a turn that is back ran nothing, or all that it could
abbrev pub may_have_run : ℕ → JobData → Phase → Bool
may_have_run ran job phase = is_out phase && ((ran == 0) || (ran == nodes_out_in job phase))

abbrev pub to_give : ℕ → JobData → Effect
to_give ran job = if may_have_run ran job job.phase
    then (let new : JobData = back ran job in Changes new ran (Replied (reply.Ran ran (line_of new))))
    else Nothing NoTurn

-- ---- calls

-- what is decided of the tenant's job of that number; `none` if there is no such job
abbrev pub about : Effect → (JobData → Effect) → Option JobData → Effect
about none f None = none
about none f (Some job) = f job

-- what a command decides, if the journal has room for it
abbrev pub command : Tenant → Effect → Effect
command t effect = if has_room 1 t then effect else Nothing (Replied reply.NoRoom)

abbrev pub decided : Tenant → Event → Effect
decided t (Submit plan quanta) = command t (to_submit t plan quanta)
decided t (Fund s quanta) = command t (about (Notes reply.NoUnknown) (to_fund t quanta) (find_job s t.jobs))
decided t (Status s) = command t (about (Notes reply.NoUnknown) (λ job. Notes (reply.Line (line_of job))) (find_job s t.jobs))
decided t (Fetch s) = command t (about (Notes reply.NoUnknown) to_fetch (find_job s t.jobs))
decided t (Cancel s) = command t (about (Notes reply.NoUnknown) to_cancel (find_job s t.jobs))
decided t (Forget s) = command t (about (Notes reply.NoUnknown) to_forget (find_job s t.jobs))
decided t Ledger = command t (Notes (reply.Ledger (book t)))
decided t (Take s slice) = about (Nothing NoTurn) (to_take t slice) (find_job s t.jobs)
decided t (Give s ran) = about (Nothing NoTurn) (to_give ran) (find_job s t.jobs)

abbrev pub step : Tenant → Event → Step
step t e = done t (decided t e)
