-- What each call does, case by case.
use Rattle.std.proofs.Common.{◌≡◌, ℕ, ◌+◌, ◌≤◌, nat_le, nat_lt, ◌&&◌, length, true, false, Option, Some, None, refl, arith}
use Rattle.std.specs.Prelude.{option_map}
use Rattle.std.proofs.lemmas.Bool.Decides.{nat_tests}
use Rattle.strategy.specs.declared.plan.Plan.{Plan}
use Rattle.job_table.specs.Table.{JobData, is_waiting, is_out, is_ended}
use Rattle.job_table.specs.Job.{gone_out, given_up, back}
use Rattle.job_table.specs.declared.phase.Phase.TheVariants.{Waiting}
use Rattle.farm_core.specs.declared.entry.Event.TheVariants.{Submit, Fund, Cancel, Take, Give}
use Rattle.farm_core.specs.declared.reply.Line.{Line}
use Rattle.farm_core.specs.declared.reply.Reply.TheVariants as reply
use Rattle.farm_core.specs.Tenant.{Tenant, free, find_job, line_of}
use Rattle.farm_core.specs.Step.{Replied, Sent, NoTurn, Nothing, Notes, Adds, Changes, has_room, is_amount, is_slice, fresh_job, to_submit, to_fund, to_cancel, may_have_run, decided}

-- the job of which this is told
pub record IsTold (t : Tenant) (s : ℕ) (line : Line) : Type 0 where
  pub job : JobData
  pub found : find_job s t.jobs ≡ Some job
  pub line_is : line_of job ≡ line

line_after : (t : Tenant) (s : ℕ) (line : Line) (found : Option JobData) → find_job s t.jobs ≡ found → option_map line_of found ≡ Some line → IsTold t s line
line_after t s line None found is = absurd (cc)
line_after t s line (Some job) found is = record { job = job; found = found; line_is = cc }

pub told : (t : Tenant) (s : ℕ) (line : Line) → option_map line_of (find_job s t.jobs) ≡ Some line → IsTold t s line
told t s line is = line_after t s line (find_job s t.jobs) refl is

none_of : (t : Tenant) (s : ℕ) (found : Option JobData) → find_job s t.jobs ≡ found → option_map line_of found ≡ None → find_job s t.jobs ≡ None
none_of t s None found is = found
none_of t s (Some job) found is = absurd (cc)

pub untold : (t : Tenant) (s : ℕ) → option_map line_of (find_job s t.jobs) ≡ None → find_job s t.jobs ≡ None
untold t s is = none_of t s (find_job s t.jobs) refl is

pub fund_steps : (t : Tenant) (s quanta : ℕ) (job : JobData) → has_room 1 t ≡ true → find_job s t.jobs ≡ Some job → is_out job.phase ≡ false → is_ended job.phase ≡ false → is_amount quanta ≡ true
    → quanta ≤ free t → let new : JobData = record job { phase = Waiting; left = job.left + quanta } in
    decided t (Fund s quanta) ≡ Changes new 0 (Replied (reply.Line (line_of new)))
unfolding to_fund
fund_steps t s quanta job room found here going amount some =
    let enough : nat_le quanta (free t) ≡ true = grind (arith, nat_tests) in
    rw (room, found, here, going, amount, enough) refl

pub fund_short : (t : Tenant) (s quanta n : ℕ) (job : JobData) → has_room 1 t ≡ true → find_job s t.jobs ≡ Some job → is_out job.phase ≡ false → is_ended job.phase ≡ false → is_amount quanta ≡ true
    → (quanta ≤ free t → ⊥) → n ≡ free t → decided t (Fund s quanta) ≡ Notes (reply.NoShort n)
unfolding to_fund
fund_short t s quanta n job room found here going amount more same =
    let short : nat_le quanta (free t) ≡ false = grind (arith, nat_tests) in
    rw (room, found, here, going, amount, short, same) refl

-- what is told of a job that was given up
pub record IsGivenUpTo (job : JobData) (line : Line) : Type 0 where
  pub then : JobData
  pub gone : given_up job job.phase ≡ Some then
  pub line_is : line ≡ line_of then

given_to : (job : JobData) (new : Option JobData) (line : Line) → given_up job job.phase ≡ new → option_map line_of new ≡ Some line → IsGivenUpTo job line
given_to job None line gone is = absurd (cc)
given_to job (Some then) line gone is = record { then = then; gone = gone; line_is = cc }

pub gives : (job : JobData) (line : Line) → option_map line_of (given_up job job.phase) ≡ Some line → IsGivenUpTo job line
gives job line is = given_to job (given_up job job.phase) line refl is

pub cancel_steps : (t : Tenant) (s : ℕ) (job new : JobData) → has_room 1 t ≡ true → find_job s t.jobs ≡ Some job → given_up job job.phase ≡ Some new
    → decided t (Cancel s) ≡ Changes new 0 (Replied (reply.Line (line_of new)))
unfolding to_cancel
cancel_steps t s job new room found gone = rw (room, found, gone) refl

pub submit_short : (t : Tenant) (plan : Plan) (quanta n : ℕ) → has_room 1 t ≡ true → is_amount quanta ≡ true → nat_lt (length t.jobs) t.terms.jobs ≡ true → (quanta ≤ free t → ⊥) → n ≡ free t
    → decided t (Submit plan quanta) ≡ Notes (reply.NoShort n)
unfolding to_submit
submit_short t plan quanta n room amount more short same =
    let less : nat_le quanta (free t) ≡ false = grind (arith, nat_tests) in
    rw (room, amount, more, less, same) refl

pub submit_steps : (t : Tenant) (plan : Plan) (quanta : ℕ) → has_room 1 t ≡ true → is_amount quanta ≡ true → nat_lt (length t.jobs) t.terms.jobs ≡ true → quanta ≤ free t
    → decided t (Submit plan quanta) ≡ Adds (fresh_job t plan quanta)
unfolding to_submit
submit_steps t plan quanta room amount more some =
    let enough : nat_le quanta (free t) ≡ true = grind (arith, nat_tests) in
    rw (room, amount, more, enough) refl

pub take_none : (t : Tenant) (s slice : ℕ) → find_job s t.jobs ≡ None → decided t (Take s slice) ≡ Nothing NoTurn
take_none t s slice none = rw none refl

pub take_not : (t : Tenant) (s slice : ℕ) (job : JobData) → find_job s t.jobs ≡ Some job → (is_waiting job.phase && is_slice slice && has_room 2 t) ≡ false → decided t (Take s slice) ≡ Nothing NoTurn
take_not t s slice job found not = rw (found, not) refl

pub take_steps : (t : Tenant) (s slice : ℕ) (job : JobData) → find_job s t.jobs ≡ Some job → is_waiting job.phase ≡ true → is_slice slice ≡ true → has_room 2 t ≡ true
    → let new : JobData = gone_out slice job in decided t (Take s slice) ≡ Changes new 0 (Sent (line_of new))
take_steps t s slice job found waits slice_is room = rw (found, waits, slice_is, room) refl

pub give_steps : (t : Tenant) (s ran : ℕ) (job : JobData) → find_job s t.jobs ≡ Some job → may_have_run ran job job.phase ≡ true
    → decided t (Give s ran) ≡ Changes (back ran job) ran (Replied (reply.Ran ran (line_of (back ran job))))
give_steps t s ran job found may = rw (found, may) refl
