-- What each step answers about a job is true of its plan.
use Rattle.std.proofs.Common.{◌≡◌, ℕ, ◌+◌, List, [], ◌∷◌, ◌++◌, ◌==◌, Option, Some, None, refl, sym, subst}
use Rattle.std.specs.Prelude.{IsTrue, ⊤}
use Rattle.std.proofs.lemmas.Bool.{cond_both}
use Rattle.mrcpsp.specs.Project.{is_project}
use Rattle.strategy.specs.Outcome.{best_after, verdict_after}
use Rattle.strategy.specs.declared.plan.Plan.{Plan}
use Rattle.strategy.proofs.OutcomeLemmas.{each_best, optimal_is_true, infeasible_is_true}
use Rattle.job_table.specs.Table.{JobData}
use Rattle.job_table.specs.Job.{gone_out, given_up, back}
use Rattle.job_table.specs.declared.phase.Phase.{Phase}
use Rattle.job_table.specs.declared.phase.Phase.TheVariants.{Waiting, Out, Leaving, Dry, Closed, Cancelled}
use Rattle.farm_core.specs.declared.entry.Event.{Event}
use Rattle.farm_core.specs.declared.entry.Event.TheVariants.{Submit, Fund, Cancel, Take, Give}
use Rattle.farm_core.specs.declared.reply.Reply.{Reply}
use Rattle.farm_core.specs.declared.reply.Reply.TheVariants as reply
use Rattle.farm_core.specs.Tenant.{Tenant, find_job, put_job, drop_job, line_of}
use Rattle.farm_core.specs.Step.{Answer, Replied, Sent, Step, Effect, Changes, done, step, fresh_job}
use Rattle.farm_core.specs.Truth.{IsTrueBest, IsTrueLine, IsTrueReply, IsTrueAnswer, IsPlanned}
use Rattle.farm_core.proofs.DecisionLemmas.{Tells, Cases, each_decision}

-- whose plans are known
abbrev pub Made : Type 1
Made = ℕ → Plan → Type 0

-- the job is for a plan that is known under its number, and that is a project
pub record IsKnown (made : Made) (job : JobData) : Type 0 where
  pub plan : made job.seq job.plan
  pub project : IsTrue (is_project job.plan.project)

abbrev pub AreKnown : Made → List JobData → Type 0
AreKnown made [] = ⊤
AreKnown made (job ∷ jobs) = IsKnown made job × AreKnown made jobs

abbrev pub IsKnownIf : Made → Option JobData → Type 0
IsKnownIf made None = ⊤
IsKnownIf made (Some job) = IsKnown made job

-- a step that answers the truth, and leaves jobs that are known
pub record IsGood (made : Made) (s : Step) : Type 0 where
  pub answer : IsTrueAnswer made s.answer
  pub jobs : AreKnown made s.after.jobs

best_true : (plan : Plan) (k : ℕ) → IsTrue (is_project plan.project) → IsTrueBest plan (best_after plan k) (verdict_after plan k)
best_true plan k ok = record {
  feasible = each_best plan ok k;
  optimal = optimal_is_true plan ok k;
  infeasible = infeasible_is_true plan ok k;
}

line_true : (made : Made) (job : JobData) → IsKnown made job → IsTrueLine made (line_of job)
unfolding line_of
line_true made job known = (job.plan, known.plan, (best_after job.plan job.nodes, refl, best_true job.plan job.nodes known.project))

found_known : (made : Made) (s : ℕ) (jobs : List JobData) → AreKnown made jobs → IsKnownIf made (find_job s jobs)
found_known made s [] all = tt
found_known made s (job ∷ jobs) all =
    cond_both (job.seq == s) (Some job) (find_job s jobs) (IsKnownIf made) (λ _. all.0) (λ _. found_known made s jobs all.1)

put_known : (made : Made) (s : ℕ) (new : JobData) (jobs : List JobData) → IsKnown made new → AreKnown made jobs → AreKnown made (put_job s new jobs)
put_known made s new [] one all = tt
put_known made s new (job ∷ jobs) one all =
    cond_both (job.seq == s) (new ∷ jobs) (job ∷ put_job s new jobs) (AreKnown made) (λ _. (one, all.1)) (λ _. (all.0, put_known made s new jobs one all.1))

drop_known : (made : Made) (s : ℕ) (jobs : List JobData) → AreKnown made jobs → AreKnown made (drop_job s jobs)
drop_known made s [] all = tt
drop_known made s (job ∷ jobs) all =
    cond_both (job.seq == s) jobs (job ∷ drop_job s jobs) (AreKnown made) (λ _. all.1) (λ _. (all.0, drop_known made s jobs all.1))

push_known : (made : Made) (new : JobData) (jobs : List JobData) → IsKnown made new → AreKnown made jobs → AreKnown made (jobs ++ new ∷ [])
push_known made new [] one all = (one, tt)
push_known made new (job ∷ jobs) one all = (all.0, push_known made new jobs one all.1)

-- what is told of a job where nothing changes is true where it is known
note_true : (made : Made) (t : Tenant) (answer : Reply) → AreKnown made t.jobs → Tells t answer → IsTrueReply made answer
note_true made t (reply.Line line) all tells =
    subst (IsTrueLine made) (sym tells.told) (line_true made tells.job (subst (IsKnownIf made) tells.found (found_known made tells.seq t.jobs all)))
note_true made t (reply.Ran ran line) all tells = absurd tells
note_true made t (reply.Best s best span verdict) all tells =
    let job : JobData = tells.job in
    let known : IsKnown made job = subst (IsKnownIf made) tells.found (found_known made tells.seq t.jobs all) in
    subst (IsTrueReply made) (sym tells.told) (job.plan, known.plan, refl, best_true job.plan job.nodes known.project)
note_true made t answer all tells = tt

given_up_known : (made : Made) (job : JobData) (phase : Phase) → IsKnown made job → IsKnownIf made (given_up job phase)
given_up_known made job Waiting known = record { plan = known.plan; project = known.project }
given_up_known made job (Out slice) known = record { plan = known.plan; project = known.project }
given_up_known made job (Leaving slice) known = tt
given_up_known made job Dry known = record { plan = known.plan; project = known.project }
given_up_known made job Closed known = tt
given_up_known made job Cancelled known = tt

-- a submit that makes a job makes it known
abbrev MakesKnown : Made → Event → Answer → Type 0
MakesKnown made e answer = (plan : Plan) (quanta s : ℕ) → e ≡ Submit plan quanta → answer ≡ Replied (reply.Job s) → made s plan

abbrev pub Makes : Made → Tenant → Event → Type 0
Makes made t e = MakesKnown made e (step t e).answer

-- what is told is true, whatever a submit makes; and what is done leaves jobs that are known
abbrev IsSound : Made → Tenant → Event → Effect → Type 0
IsSound made t e f = IsTrueAnswer made (done t f).answer × (IsPlanned e → MakesKnown made e (done t f).answer → AreKnown made (done t f).after.jobs)

changed_sound : (made : Made) (t : Tenant) (e : Event) (new : JobData) (ran : ℕ) (answer : Answer) → AreKnown made t.jobs → IsKnown made new → IsTrueAnswer made answer → IsSound made t e (Changes new ran answer)
changed_sound made t e new ran answer all one true_ = (true_, λ _ _. put_known made new.seq new t.jobs one all)

sound : (made : Made) (t : Tenant) → AreKnown made t.jobs → Cases t (IsSound made t)
sound made t all =
    let known : (s : ℕ) (job : JobData) → find_job s t.jobs ≡ Some job → IsKnown made job = λ s job found. subst (IsKnownIf made) found (found_known made s t.jobs all) in
    record {
      full = λ e. (tt, λ _ _. all);
      idle = λ e. (tt, λ _ _. all);
      notes = λ e answer room note. (note_true made t answer all note.tells, λ _ _. all);
      adds = λ plan quanta room some.
          (tt, λ ok new. push_known made (fresh_job t plan quanta) t.jobs (record { plan = new plan quanta t.next refl refl; project = ok }) all);
      funds = λ s quanta job room found can.
          let new : JobData = record job { phase = Waiting; left = job.left + quanta } in
          let one : IsKnown made new = record { plan = (known s job found).plan; project = (known s job found).project } in
          changed_sound made t (Fund s quanta) new 0 (Replied (reply.Line (line_of new))) all one (line_true made new one);
      cancels = λ s job new room found gone.
          let one : IsKnown made new = subst (IsKnownIf made) gone (given_up_known made job job.phase (known s job found)) in
          changed_sound made t (Cancel s) new 0 (Replied (reply.Line (line_of new))) all one (line_true made new one);
      drops = λ s job room found ended. (tt, λ _ _. drop_known made job.seq t.jobs all);
      takes = λ s slice job room found waits.
          let new : JobData = gone_out slice job in
          let one : IsKnown made new = record { plan = (known s job found).plan; project = (known s job found).project } in
          changed_sound made t (Take s slice) new 0 (Sent (line_of new)) all one (line_true made new one);
      gives = λ s ran job found may.
          let new : JobData = back ran job in
          let one : IsKnown made new = record { plan = (known s job found).plan; project = (known s job found).project } in
          changed_sound made t (Give s ran) new ran (Replied (reply.Ran ran (line_of new))) all one (line_true made new one);
    }

pub step_told : (made : Made) (t : Tenant) (e : Event) → AreKnown made t.jobs → IsTrueAnswer made (step t e).answer
step_told made t e all = (each_decision t (IsSound made t) (sound made t all) e).0

pub step_good : (made : Made) (t : Tenant) (e : Event) → AreKnown made t.jobs → IsPlanned e → Makes made t e → IsGood made (step t e)
step_good made t e all ok new = record { answer = step_told made t e all; jobs = (each_decision t (IsSound made t) (sound made t all) e).1 ok new }
