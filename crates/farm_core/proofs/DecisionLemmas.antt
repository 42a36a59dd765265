-- What a call can come to. Whatever is said of each decision is shown here for the nine calls at once, from what it says of each effect.
use Rattle.std.proofs.Common.{◌≡◌, ◌⊎◌, inl, inr, ℕ, ◌+◌, Bool, true, false, not, nat_le, nat_lt, ◌&&◌, [], length, Option, Some, None, refl, subst}
use Rattle.std.specs.Prelude.{⊤, option_map}
use Rattle.std.proofs.lemmas.Bool.{cond_both, and_parts}
use Rattle.mrcpsp.specs.Schedule.{makespan}
use Rattle.strategy.specs.Outcome.{best_after, verdict_after}
use Rattle.strategy.specs.declared.plan.Plan.{Plan}
use Rattle.job_table.specs.Table.{JobData, is_waiting, is_out, is_ended}
use Rattle.job_table.specs.Job.{gone_out, given_up, back}
use Rattle.job_table.specs.declared.phase.Phase.TheVariants.{Waiting}
use Rattle.farm_core.specs.declared.entry.Event.{Event}
use Rattle.farm_core.specs.declared.entry.Event.TheVariants.{Submit, Fund, Status, Fetch, Cancel, Forget, Ledger, Take, Give}
use Rattle.farm_core.specs.declared.reply.Reply.{Reply}
use Rattle.farm_core.specs.declared.reply.Reply.TheVariants as reply
use Rattle.farm_core.specs.Tenant.{Tenant, book, free, find_job, line_of}
use Rattle.farm_core.specs.Step.{Replied, Sent, NoTurn, Effect, Nothing, Notes, Adds, Changes, Drops, done, has_room, is_amount, is_slice, fresh_job, to_submit, to_fund, to_fetch, to_stand, to_cancel, to_forget, to_take, may_have_run, to_give, about, command, decided, step}
use Rattle.farm_core.specs.World.{is_noted}
use Rattle.farm_core.specs.Need.{accepted}

-- a job that the tenant has, and of which this is so
pub record IsOfJob (t : Tenant) (P : JobData → Type 0) : Type 0 where
  pub seq : ℕ
  pub job : JobData
  pub found : find_job seq t.jobs ≡ Some job
  pub told : P job

-- what is told of a job where nothing changes is so of one that the tenant has
abbrev pub Tells : Tenant → Reply → Type 0
Tells t (reply.Job s) = ⊥
Tells t (reply.Line line) = IsOfJob t (λ job. line ≡ line_of job)
Tells t (reply.Ran ran line) = ⊥
Tells t (reply.Best s best span verdict) =
    IsOfJob t (λ job. reply.Best s best span verdict
    ≡ reply.Best job.seq (best_after job.plan job.nodes) (option_map (makespan job.plan.project) (best_after job.plan job.nodes)) (verdict_after job.plan job.nodes))
Tells t answer = ⊤

-- a call that changes nothing but the journal
pub record IsNote (t : Tenant) (e : Event) (answer : Reply) : Type 0 where
  pub noted : is_noted (Replied answer) ≡ true
  pub accepted : accepted e (Replied answer) ≡ []
  pub tells : Tells t answer

-- a job that so many quanta can be given
pub record IsFundable (t : Tenant) (quanta : ℕ) (job : JobData) : Type 0 where
  pub here : is_out job.phase ≡ false
  pub going : is_ended job.phase ≡ false
  pub some : nat_le quanta (free t) ≡ true

-- something that is so of each effect that a call can have
pub record Cases (t : Tenant) (P : Event → Effect → Type 0) : Type 0 where
  pub full : (e : Event) → P e (Nothing (Replied reply.NoRoom))
  pub idle : (e : Event) → P e (Nothing NoTurn)
  pub notes : (e : Event) (answer : Reply) → has_room 1 t ≡ true → IsNote t e answer → P e (Notes answer)
  pub adds : (plan : Plan) (quanta : ℕ) → has_room 1 t ≡ true → nat_le quanta (free t) ≡ true → P (Submit plan quanta) (Adds (fresh_job t plan quanta))
  pub funds : (s quanta : ℕ) (job : JobData) → has_room 1 t ≡ true → find_job s t.jobs ≡ Some job → IsFundable t quanta job →
      let new : JobData = record job { phase = Waiting; left = job.left + quanta } in P (Fund s quanta) (Changes new 0 (Replied (reply.Line (line_of new))))
  pub cancels : (s : ℕ) (job new : JobData) → has_room 1 t ≡ true → find_job s t.jobs ≡ Some job → given_up job job.phase ≡ Some new
      → P (Cancel s) (Changes new 0 (Replied (reply.Line (line_of new))))
  pub drops : (s : ℕ) (job : JobData) → has_room 1 t ≡ true → find_job s t.jobs ≡ Some job → is_ended job.phase ≡ true → P (Forget s) (Drops job.seq)
  pub takes : (s slice : ℕ) (job : JobData) → has_room 2 t ≡ true → find_job s t.jobs ≡ Some job → is_waiting job.phase ≡ true →
      let new : JobData = gone_out slice job in P (Take s slice) (Changes new 0 (Sent (line_of new)))
  pub gives : (s ran : ℕ) (job : JobData) → find_job s t.jobs ≡ Some job → may_have_run ran job job.phase ≡ true
      → P (Give s ran) (Changes (back ran job) ran (Replied (reply.Ran ran (line_of (back ran job)))))

-- ---- parts of a decision

is_so : (b : Bool) → not b ≡ false → b ≡ true
is_so true h = refl
is_so false h = absurd (cc)

on_found : (t : Tenant) (s : ℕ) (none : Effect) (f : JobData → Effect) (Q : Effect → Type 0) → Q none → ((job : JobData) → find_job s t.jobs ≡ Some job → Q (f job))
    → Q (about none f (find_job s t.jobs))
on_found t s none f Q nothing each = by (find_job s t.jobs) refl
  where
    by : (there : Option JobData) → find_job s t.jobs ≡ there → Q (about none f there)
    by None is = nothing
    by (Some job) is = each job is

-- ---- calls

note : (t : Tenant) (P : Event → Effect → Type 0) → Cases t P → (e : Event) (answer : Reply) → has_room 1 t ≡ true → is_noted (Replied answer) ≡ true → accepted e (Replied answer) ≡ []
    → Tells t answer → P e (Notes answer)
note t P c e answer room noted none tells = c.notes e answer room (record { noted = noted; accepted = none; tells = tells })

on_room : (t : Tenant) (P : Event → Effect → Type 0) → Cases t P → (e : Event) (f : Effect) → (has_room 1 t ≡ true → P e f) → P e (command t f)
on_room t P c e f each = cond_both (has_room 1 t) f (Nothing (Replied reply.NoRoom)) (P e) each (λ _. c.full e)

on_job : (t : Tenant) (P : Event → Effect → Type 0) → Cases t P → (e : Event) (s : ℕ) (f : JobData → Effect) → accepted e (Replied reply.NoUnknown) ≡ []
    → (has_room 1 t ≡ true → (job : JobData) → find_job s t.jobs ≡ Some job → P e (f job)) → P e (command t (about (Notes reply.NoUnknown) f (find_job s t.jobs)))
on_job t P c e s f none each =
    on_room t P c e (about (Notes reply.NoUnknown) f (find_job s t.jobs))
    (λ room. on_found t s (Notes reply.NoUnknown) f (P e) (note t P c e reply.NoUnknown room refl none tt) (each room))

on_submit : (t : Tenant) (P : Event → Effect → Type 0) → Cases t P → (plan : Plan) (quanta : ℕ) → has_room 1 t ≡ true → P (Submit plan quanta) (to_submit t plan quanta)
unfolding to_submit
on_submit t P c plan quanta room =
    let e : Event = Submit plan quanta in
    let n : (answer : Reply) → is_noted (Replied answer) ≡ true → accepted e (Replied answer) ≡ [] → Tells t answer → P e (Notes answer) = λ answer. note t P c e answer room in
    cond_both (not (is_amount quanta)) (Notes reply.NoAmount) _ (P e) (λ _. n reply.NoAmount refl refl tt)
    (λ _. cond_both (not (nat_lt (length t.jobs) t.terms.jobs)) (Notes reply.NoJobs) _ (P e) (λ _. n reply.NoJobs refl refl tt)
    (λ _. cond_both (not (nat_le quanta (free t))) (Notes (reply.NoShort (free t))) (Adds (fresh_job t plan quanta)) (P e) (λ _. n (reply.NoShort (free t)) refl refl tt)
    (λ no. c.adds plan quanta room (is_so (nat_le quanta (free t)) no))))

on_fund : (t : Tenant) (P : Event → Effect → Type 0) → Cases t P → (s quanta : ℕ) (job : JobData) → has_room 1 t ≡ true → find_job s t.jobs ≡ Some job → P (Fund s quanta) (to_fund t quanta job)
unfolding to_fund
on_fund t P c s quanta job room found =
    let e : Event = Fund s quanta in
    let n : (answer : Reply) → is_noted (Replied answer) ≡ true → accepted e (Replied answer) ≡ [] → Tells t answer → P e (Notes answer) = λ answer. note t P c e answer room in
    cond_both (is_out job.phase) (Notes reply.NoBusy) _ (P e) (λ _. n reply.NoBusy refl refl tt)
    (λ here. cond_both (is_ended job.phase) (Notes reply.NoOver) _ (P e) (λ _. n reply.NoOver refl refl tt)
    (λ going. cond_both (not (is_amount quanta)) (Notes reply.NoAmount) _ (P e) (λ _. n reply.NoAmount refl refl tt)
    (λ _. cond_both (not (nat_le quanta (free t))) (Notes (reply.NoShort (free t))) _ (P e) (λ _. n (reply.NoShort (free t)) refl refl tt)
    (λ no. c.funds s quanta job room found (record { here = here; going = going; some = is_so (nat_le quanta (free t)) no })))))

on_fetch : (t : Tenant) (P : Event → Effect → Type 0) → Cases t P → (s : ℕ) (job : JobData) → has_room 1 t ≡ true → find_job s t.jobs ≡ Some job → P (Fetch s) (to_fetch job)
unfolding to_fetch
on_fetch t P c s job room found =
    cond_both (is_out job.phase) (Notes reply.NoBusy) _ (P (Fetch s)) (λ _. note t P c (Fetch s) reply.NoBusy room refl refl tt)
    (λ _. note t P c (Fetch s) (reply.Best job.seq (best_after job.plan job.nodes) (option_map (makespan job.plan.project) (best_after job.plan job.nodes)) (verdict_after job.plan job.nodes)) room refl refl
    (record { seq = s; job = job; found = found; told = refl }))

on_cancel : (t : Tenant) (P : Event → Effect → Type 0) → Cases t P → (s : ℕ) (job : JobData) → has_room 1 t ≡ true → find_job s t.jobs ≡ Some job → P (Cancel s) (to_cancel job)
unfolding to_cancel
on_cancel t P c s job room found = by (given_up job job.phase) refl
  where
    by : (new : Option JobData) → given_up job job.phase ≡ new → P (Cancel s) (to_stand new)
    by None is = note t P c (Cancel s) reply.NoOver room refl refl tt
    by (Some new) is = c.cancels s job new room found is

on_forget : (t : Tenant) (P : Event → Effect → Type 0) → Cases t P → (s : ℕ) (job : JobData) → has_room 1 t ≡ true → find_job s t.jobs ≡ Some job → P (Forget s) (to_forget job)
unfolding to_forget
on_forget t P c s job room found =
    cond_both (not (is_ended job.phase)) (Notes reply.NoBusy) (Drops job.seq) (P (Forget s)) (λ _. note t P c (Forget s) reply.NoBusy room refl refl tt)
    (λ no. c.drops s job room found (is_so (is_ended job.phase) no))

on_take : (t : Tenant) (P : Event → Effect → Type 0) → Cases t P → (s slice : ℕ) (job : JobData) → find_job s t.jobs ≡ Some job → P (Take s slice) (to_take t slice job)
on_take t P c s slice job found =
    cond_both (is_waiting job.phase && is_slice slice && has_room 2 t) _ (Nothing NoTurn) (P (Take s slice))
    (λ may.
    let parts = and_parts (is_waiting job.phase && is_slice slice) (has_room 2 t) may in
    c.takes s slice job parts.1 found (and_parts (is_waiting job.phase) (is_slice slice) parts.0).0)
    (λ _. c.idle (Take s slice))

on_give : (t : Tenant) (P : Event → Effect → Type 0) → Cases t P → (s ran : ℕ) (job : JobData) → find_job s t.jobs ≡ Some job → P (Give s ran) (to_give ran job)
on_give t P c s ran job found =
    cond_both (may_have_run ran job job.phase) _ (Nothing NoTurn) (P (Give s ran)) (c.gives s ran job found) (λ _. c.idle (Give s ran))

pub each_decision : (t : Tenant) (P : Event → Effect → Type 0) → Cases t P → (e : Event) → P e (decided t e)
each_decision t P c (Submit plan quanta) = on_room t P c (Submit plan quanta) (to_submit t plan quanta) (on_submit t P c plan quanta)
each_decision t P c (Fund s quanta) = on_job t P c (Fund s quanta) s (to_fund t quanta) refl (λ room job found. on_fund t P c s quanta job room found)
each_decision t P c (Status s) =
    on_job t P c (Status s) s (λ job. Notes (reply.Line (line_of job))) refl
    (λ room job found. note t P c (Status s) (reply.Line (line_of job)) room refl refl (record { seq = s; job = job; found = found; told = refl }))
each_decision t P c (Fetch s) = on_job t P c (Fetch s) s to_fetch refl (λ room job found. on_fetch t P c s job room found)
each_decision t P c (Cancel s) = on_job t P c (Cancel s) s to_cancel refl (λ room job found. on_cancel t P c s job room found)
each_decision t P c (Forget s) = on_job t P c (Forget s) s to_forget refl (λ room job found. on_forget t P c s job room found)
each_decision t P c Ledger = on_room t P c Ledger (Notes (reply.Ledger (book t))) (λ room. note t P c Ledger (reply.Ledger (book t)) room refl refl tt)
each_decision t P c (Take s slice) = on_found t s (Nothing NoTurn) (to_take t slice) (P (Take s slice)) (c.idle (Take s slice)) (λ job found. on_take t P c s slice job found)
each_decision t P c (Give s ran) = on_found t s (Nothing NoTurn) (to_give ran) (P (Give s ran)) (c.idle (Give s ran)) (λ job found. on_give t P c s ran job found)

-- ---- entries

abbrev pub leaves_entry : Effect → Bool
leaves_entry (Nothing answer) = false
leaves_entry f = true

-- a call's answer tells whether it leaves its entry
pub entry_told : (t : Tenant) (e : Event) → is_noted (step t e).answer ≡ leaves_entry (decided t e)
entry_told t =
    each_decision t (λ e f. is_noted (done t f).answer ≡ leaves_entry f)
    (record {
      full = λ e. refl;
      idle = λ e. refl;
      notes = λ e answer room it. it.noted;
      adds = λ plan quanta room some. refl;
      funds = λ s quanta job room found can. refl;
      cancels = λ s job new room found gone. refl;
      drops = λ s job room found ended. refl;
      takes = λ s slice job room found waits. refl;
      gives = λ s ran job found may. refl;
    })

-- a refusal for want of entries, or of a turn, asks for nothing
pub unasked : (e : Event) → (accepted e (Replied reply.NoRoom) ≡ []) × (accepted e NoTurn ≡ [])
unasked (Submit plan quanta) = (refl, refl)
unasked e = (refl, refl)

-- ---- what a decision rests on

abbrev pub Grounds : Tenant → Effect → Event → Type 0
Grounds t (Nothing answer) e = (answer ≡ Replied reply.NoRoom) ⊎ (answer ≡ NoTurn)
Grounds t (Notes answer) e = (has_room 1 t ≡ true) × IsNote t e answer
Grounds t (Adds job) e = (has_room 1 t ≡ true) × ((plan : Plan) × (quanta : ℕ) × (e ≡ Submit plan quanta) × (job ≡ fresh_job t plan quanta))
Grounds t (Changes new ran answer) (Fund s quanta) =
    (has_room 1 t ≡ true) × ((job : JobData) × (find_job s t.jobs ≡ Some job) × (new ≡ record job { phase = Waiting; left = job.left + quanta })) × (nat_le quanta (free t) ≡ true)
Grounds t (Changes new ran answer) (Cancel s) = (has_room 1 t ≡ true) × ((job : JobData) × (find_job s t.jobs ≡ Some job) × (given_up job job.phase ≡ Some new))
Grounds t (Changes new ran answer) e = ⊤
Grounds t (Drops n) e = (has_room 1 t ≡ true) × ((s : ℕ) × (job : JobData) × (e ≡ Forget s) × (n ≡ job.seq) × (find_job s t.jobs ≡ Some job) × (is_ended job.phase ≡ true))

grounds : (t : Tenant) (e : Event) → Grounds t (decided t e) e
grounds t =
    each_decision t (λ e f. Grounds t f e)
    (record {
      full = λ e. inl refl;
      idle = λ e. inr refl;
      notes = λ e answer room it. (room, it);
      adds = λ plan quanta room some. (room, (plan, quanta, refl, refl));
      funds = λ s quanta job room found can. (room, (job, found, refl), can.some);
      cancels = λ s job new room found gone. (room, (job, found, gone));
      drops = λ s job room found ended. (room, (s, job, refl, refl, found, ended));
      takes = λ s slice job room found waits. tt;
      gives = λ s ran job found may. tt;
    })

pub grounds_of : (t : Tenant) (e : Event) (f : Effect) → decided t e ≡ f → Grounds t f e
grounds_of t e f is = subst (λ g. Grounds t g e) is (grounds t e)
