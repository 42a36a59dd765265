-- Where the searches of jobs are, after any calls.
use Rattle.std.proofs.Common.{◌≡◌, ℕ, ◌+◌, ◌==◌, List, [], ◌∷◌, ◌++◌, true, false, Option, Some, refl, sym, ap, ◌∙◌, subst, ⊎_elim}
use Rattle.std.specs.Prelude.{⊤}
use Rattle.std.proofs.lemmas.Bool.{cond_both, cases_eq}
use Rattle.job_table.specs.Table.{JobData, is_out, is_ended}
use Rattle.job_table.specs.Job.{is_here, gone_out, given_up, back}
use Rattle.job_table.specs.declared.phase.Phase.{Phase}
use Rattle.job_table.specs.declared.phase.Phase.TheVariants.{Waiting, Out, Leaving, Dry, Closed, Cancelled}
use Rattle.farm_core.specs.Tenant.{Tenant, Member, find_job, put_job, drop_job}
use Rattle.farm_core.specs.Step.{done, fresh_job}
use Rattle.farm_core.specs.Config.{ConfigData}
use Rattle.farm_core.specs.World.{World, Call, opened, view, Steps, Leads}
use Rattle.farm_core.specs.Farm.{IsReached, AreAtHome}
use Rattle.farm_core.proofs.DecisionLemmas.{Cases, each_decision}
use Rattle.farm_core.proofs.AloneLemmas.{member_opened}
use Rattle.farm_core.proofs.ChangeLemmas.{own_job}

-- a job that is not out and not over has its search with it
pub going_here : (phase : Phase) → is_out phase ≡ false → is_ended phase ≡ false → is_here phase ≡ true
going_here Waiting out ended = refl
going_here (Out slice) out ended = absurd (cc)
going_here (Leaving slice) out ended = absurd (cc)
going_here Dry out ended = refl
going_here Closed out ended = absurd (cc)
going_here Cancelled out ended = absurd (cc)

abbrev IsHome : JobData → Type 0
IsHome job = job.here ≡ is_here job.phase

abbrev AreHome : List JobData → Type 0
AreHome [] = ⊤
AreHome (job ∷ jobs) = IsHome job × AreHome jobs

home_put : (s : ℕ) (new : JobData) (jobs : List JobData) → IsHome new → AreHome jobs → AreHome (put_job s new jobs)
home_put s new [] one all = tt
home_put s new (job ∷ jobs) one all =
    cond_both (job.seq == s) (new ∷ jobs) (job ∷ put_job s new jobs) AreHome (λ _. (one, all.1)) (λ _. (all.0, home_put s new jobs one all.1))

home_drop : (s : ℕ) (jobs : List JobData) → AreHome jobs → AreHome (drop_job s jobs)
home_drop s [] all = tt
home_drop s (job ∷ jobs) all = cond_both (job.seq == s) jobs (job ∷ drop_job s jobs) AreHome (λ _. all.1) (λ _. (all.0, home_drop s jobs all.1))

home_push : (new : JobData) (jobs : List JobData) → IsHome new → AreHome jobs → AreHome (jobs ++ new ∷ [])
home_push new [] one all = (one, tt)
home_push new (job ∷ jobs) one all = (all.0, home_push new jobs one all.1)

home_found : (s : ℕ) (jobs : List JobData) (job : JobData) → find_job s jobs ≡ Some job → AreHome jobs → IsHome job
home_found s [] job found all = absurd (cc)
home_found s (one ∷ jobs) job found all = cond_both (one.seq == s) (Some one) (find_job s jobs) (λ (o : Option JobData). o ≡ Some job → IsHome job)
    (λ _ e. let same : one ≡ job = cc in subst IsHome same all.0) (λ _ e. home_found s jobs job e all.1) found

-- a job that is given up
gone_home : (job new : JobData) (phase : Phase) → job.here ≡ is_here phase → given_up job phase ≡ Some new → IsHome new
gone_home job new Waiting here gone = let same : record job { phase = Cancelled; left = 0; here = false } ≡ new = cc in subst IsHome same refl
gone_home job new (Out slice) here gone = let same : record job { phase = Leaving slice } ≡ new = cc in subst IsHome same here
gone_home job new (Leaving slice) here gone = absurd (cc)
gone_home job new Dry here gone = let same : record job { phase = Cancelled; left = 0; here = false } ≡ new = cc in subst IsHome same refl
gone_home job new Closed here gone = absurd (cc)
gone_home job new Cancelled here gone = absurd (cc)

homes : (t : Tenant) → AreHome t.jobs → Cases t (λ e f. AreHome (done t f).after.jobs)
homes t all = record {
  full = λ e. all;
  idle = λ e. all;
  notes = λ e answer room note. all;
  adds = λ plan quanta room some. home_push (fresh_job t plan quanta) t.jobs refl all;
  funds = λ s quanta job room found can.
      home_put job.seq (record job { phase = Waiting; left = job.left + quanta }) t.jobs (home_found s t.jobs job found all ∙ going_here job.phase can.here can.going) all;
  cancels = λ s job new room found gone. home_put new.seq new t.jobs (gone_home job new job.phase (home_found s t.jobs job found all) gone) all;
  drops = λ s job room found ended. home_drop job.seq t.jobs all;
  takes = λ s slice job room found waits. home_put job.seq (gone_out slice job) t.jobs refl all;
  gives = λ s ran job found may. home_put job.seq (back ran job) t.jobs refl all;
}

-- ---- along a run

step_home : (u : ℕ) (old mid : World) (c : Call) → Steps old c.tenant c.event c.answer mid → AreHome (view u old).jobs → AreHome (view u mid).jobs
unfolding view
step_home u old mid c h all =
    let t = view c.tenant old in
    ⊎_elim
    (λ (e : u ≡ c.tenant).
    let own : AreHome t.jobs = subst (λ n. AreHome (view n old).jobs) e all in
    let after : AreHome (view c.tenant mid).jobs = subst (λ (v : Tenant). AreHome v.jobs) (sym h.own) (each_decision t (λ e f. AreHome (done t f).after.jobs) (homes t own) c.event) in
    subst (λ n. AreHome (view n mid).jobs) (sym e) after)
    (λ (differ : u ≡ c.tenant → ⊥). subst AreHome (sym (ap (λ (m : Member). m.jobs) (h.others u differ))) all)
    (cases_eq u c.tenant)

leads_home : (u : ℕ) (old new : World) (calls : List Call) → Leads old calls new → AreHome (view u old).jobs → AreHome (view u new).jobs
leads_home u old new [] run all = subst (λ (w : World). AreHome (view u w).jobs) (sym run) all
leads_home u old new (c ∷ calls) run all = leads_home u run.0 new calls run.2 (step_home u old run.0 c run.1 all)

opened_home : (u : ℕ) (config : ConfigData) → AreHome (view u (opened config)).jobs
unfolding view
opened_home u config =
    let jobs : (view u (opened config)).jobs ≡ [] = ap (λ (m : Member). m.jobs) (member_opened u config) in
    rw jobs tt

-- the searches of a farm's jobs are where their phases say
pub at_home : (w : World) → IsReached w → AreAtHome w.rows
at_home w it t s job found =
    home_found s (view t w).jobs job (own_job w t s job found) (leads_home t (opened w.config) w it.calls it.run (opened_home t w.config))
