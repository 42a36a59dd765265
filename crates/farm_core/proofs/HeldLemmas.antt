-- What each call does to a turn that is out, and which call makes one.
use Rattle.std.proofs.Common.{◌≡◌, ◌≢◌, ℕ, ◌+◌, ◌≤◌, min, List, [], ◌∷◌, ◌++◌, length, true, false, cond, ◌&&◌, ◌==◌, Option, Some, None, refl, sym, ap, ◌∙◌, subst, arith, ⊎_elim, ◌⊎◌, inl, inr, eq-eqb, ◌<◌}
use Rattle.std.specs.Prelude.{⊤}
use Rattle.std.proofs.lemmas.Bool.{cond_both, cases_eq, eqb-true, and_parts, both_ways}
use Rattle.std.proofs.lemmas.Bool.Decides.{nat_tests}
use Rattle.mrcpsp.specs.Numbers.{first_from}
use Rattle.strategy.specs.Outcome.{is_closed}
use Rattle.strategy.specs.Search.{Meaning, nodes_within}
use Rattle.strategy.specs.declared.plan.Plan.{Plan}
use Rattle.job_table.specs.Table.{JobData, is_waiting, is_out, is_ended}
use Rattle.job_table.specs.Job.{gone_out, given_up, is_turn, back}
use Rattle.job_table.specs.declared.phase.Phase.{Phase}
use Rattle.job_table.specs.declared.phase.Phase.TheVariants.{Waiting, Out, Leaving, Dry, Closed, Cancelled}
use Rattle.farm_core.specs.declared.entry.Event.{Event}
use Rattle.farm_core.specs.declared.entry.Event.TheVariants.{Submit, Fund, Cancel, Forget, Take, Give}
use Rattle.farm_core.specs.declared.reply.Line.{Line}
use Rattle.farm_core.specs.declared.reply.Reply.{Reply}
use Rattle.farm_core.specs.declared.reply.Reply.TheVariants as reply
use Rattle.farm_core.specs.Tenant.{Tenant, Purse, seat, find_job, put_job, drop_job, line_of, nodes_of_turn, nodes_out_in}
use Rattle.farm_core.specs.Step as effect
use Rattle.farm_core.specs.Step.{Replied, Sent, NoTurn, Step, Effect, Nothing, done, step, has_room, is_slice, fresh_job, to_take, may_have_run, to_give, about}
use Rattle.farm_core.specs.Config.{member_lines}
use Rattle.farm_core.specs.World.{World, purse_in, place_in, opened_purse, view, events_of, after_alone, IsOfJournal}
use Rattle.farm_core.specs.Held.{is_out_of, takes, gives, nodes_out, TakenTurnsAreHeld, TakenJobsWereNotOut, TurnsStayHeld, HeldTurnsAreNoStrangers, HeldTurnsRunTheirNodes, OnlyTakenJobsAreOut, GivenJobsAreNotOut}
use Rattle.farm_core.specs.Turn.{IsTaken}
use Rattle.farm_core.proofs.DecisionLemmas.{Cases, each_decision}
use Rattle.farm_core.proofs.CommandLemmas.{own_row}
use Rattle.farm_core.proofs.PlaceLemmas.{first_from-most}
use Rattle.farm_core.proofs.SeatLemmas.{each_view_is_a_seat, steps_of, jobs_stay}
use Rattle.farm_core.proofs.NeedLemmas.{IsNumberOf, AreDistinct, alone_distinct}
use Rattle.farm_core.proofs.RunningLemmas.{found_seq, out_in, after_back, gone_less}

-- the turn that a job has out is out as before
pub record IsSameTurn (job : JobData) (after : Option JobData) : Type 0 where
  pub new : JobData
  pub found : after ≡ Some new
  pub plan : new.plan ≡ job.plan
  pub nodes : new.nodes ≡ job.nodes
  pub left : new.left ≡ job.left
  pub turn : (slice : ℕ) → is_turn slice job.phase ≡ true → is_turn slice new.phase ≡ true

-- what becomes of job s over a call: its turn stays out until it is given, and goes out where it is taken, as long as no two jobs
-- have the same number
pub record IsChange (distinct : Type 0) (s : ℕ) (e : Event) (old new : Option JobData) : Type 0 where
  pub stays : (job : JobData) → old ≡ Some job → is_out job.phase ≡ true → gives s e ≡ false → IsSameTurn job new
  pub goes : distinct → is_out_of new ≡ true → (is_out_of old ≡ true) ⊎ (takes s e ≡ true)

stays_so : (distinct : Type 0) (s : ℕ) (e : Event) (found : Option JobData) → IsChange distinct s e found found
stays_so distinct s e found = record {
  stays = λ job is out other. record { new = job; found = is; plan = refl; nodes = refl; left = refl; turn = λ slice turn. turn };
  goes = λ d out. inl out;
}

-- neither before nor after it is out
is_quiet : (distinct : Type 0) (s : ℕ) (e : Event) (old new : Option JobData) → is_out_of old ≡ false → (distinct → is_out_of new ≡ false) → IsChange distinct s e old new
is_quiet distinct s e old new here then = record {
  stays = λ job is out other. let it : is_out_of old ≡ true = ap is_out_of is ∙ out in absurd (both_ways (is_out_of old) here it);
  goes = λ d out. absurd (both_ways (is_out_of new) (then d) out);
}

put_own : (s : ℕ) (old new : JobData) (jobs : List JobData) → find_job s jobs ≡ Some old → new.seq ≡ s → find_job s (put_job s new jobs) ≡ Some new
put_own s old new [] found named = absurd (cc)
put_own s old new (job ∷ jobs) found named = grind (arith, nat_tests, put_own s old new jobs)

put_other : (s n : ℕ) (new : JobData) (jobs : List JobData) → s ≢ n → new.seq ≡ n → find_job s (put_job n new jobs) ≡ find_job s jobs
put_other s n new [] other named = refl
put_other s n new (job ∷ jobs) other named = grind (arith, nat_tests, put_other s n new jobs other named)

drop_other : (s n : ℕ) (jobs : List JobData) → s ≢ n → find_job s (drop_job n jobs) ≡ find_job s jobs
drop_other s n [] other = refl
drop_other s n (job ∷ jobs) other = grind (arith, nat_tests, drop_other s n jobs other)

push_found : (s : ℕ) (new : JobData) (jobs : List JobData) (job : JobData) → find_job s jobs ≡ Some job → find_job s (jobs ++ new ∷ []) ≡ Some job
push_found s new [] job found = absurd (cc)
push_found s new (one ∷ jobs) job found = grind (arith, nat_tests, push_found s new jobs job)

push_none : (s : ℕ) (new : JobData) (jobs : List JobData) → find_job s jobs ≡ None → find_job s (jobs ++ new ∷ []) ≡ cond (new.seq == s) (Some new) None
push_none s new [] none = refl
push_none s new (one ∷ jobs) none = grind (arith, nat_tests, push_none s new jobs)

no_job : (s : ℕ) (jobs : List JobData) → (IsNumberOf s jobs → ⊥) → find_job s jobs ≡ None
no_job s [] not = refl
no_job s (job ∷ jobs) not =
    cond_both (job.seq == s) (Some job) (find_job s jobs) (λ (o : Option JobData). o ≡ None) (λ e. absurd (not (inl (eqb-true job.seq s e)))) (λ _. no_job s jobs (λ i. not (inr i)))

-- a job is not there twice
drop_own : (s : ℕ) (jobs : List JobData) → AreDistinct jobs → find_job s (drop_job s jobs) ≡ None
drop_own s [] all = refl
drop_own s (job ∷ jobs) all =
    cond_both (job.seq == s) jobs (job ∷ drop_job s jobs) (λ (js : List JobData). find_job s js ≡ None)
    (λ e. no_job s jobs (λ i. all.0 (subst (λ n. IsNumberOf n jobs) (sym (eqb-true job.seq s e)) i)))
    (λ e. cond_both (job.seq == s) (Some job) (find_job s (drop_job s jobs)) (λ (o : Option JobData). o ≡ None) (λ is. absurd (both_ways (job.seq == s) e is)) (λ _. drop_own s jobs all.1))

-- one job changed
put_change : (distinct : Type 0) (s n : ℕ) (e : Event) (job new : JobData) (jobs : List JobData) → find_job n jobs ≡ Some job → new.seq ≡ job.seq → (s ≡ n → IsChange distinct s e (Some job) (Some new))
    → IsChange distinct s e (find_job s jobs) (find_job s (put_job new.seq new jobs))
put_change distinct s n e job new jobs found named own =
    let seq : new.seq ≡ n = named ∙ found_seq n jobs job found in
    ⊎_elim
    (λ (same : s ≡ n).
    let before : find_job s jobs ≡ Some job = ap (λ k. find_job k jobs) same ∙ found in
    let after : find_job s (put_job new.seq new jobs) ≡ Some new = ap (λ k. find_job s (put_job k new jobs)) (seq ∙ sym same) ∙ put_own s job new jobs before (seq ∙ sym same) in
    subst (λ (o : Option JobData). IsChange distinct s e o (find_job s (put_job new.seq new jobs))) (sym before) (subst (λ (o : Option JobData). IsChange distinct s e (Some job) o) (sym after) (own same)))
    (λ (other : s ≡ n → ⊥).
    let after : find_job s (put_job new.seq new jobs) ≡ find_job s jobs = ap (λ k. find_job s (put_job k new jobs)) seq ∙ put_other s n new jobs other seq in
    subst (λ (o : Option JobData). IsChange distinct s e (find_job s jobs) o) (sym after) (stays_so distinct s e (find_job s jobs)))
    (cases_eq s n)

-- what becomes of job s over a step
abbrev Changes : ℕ → Event → Tenant → Step → Type 0
Changes s e t it = IsChange (AreDistinct t.jobs) s e (find_job s t.jobs) (find_job s it.after.jobs)

stays : (s : ℕ) (e : Event) (t : Tenant) → IsChange (AreDistinct t.jobs) s e (find_job s t.jobs) (find_job s t.jobs)
stays s e t = stays_so (AreDistinct t.jobs) s e (find_job s t.jobs)

push_change : (distinct : Type 0) (s : ℕ) (e : Event) (new : JobData) (jobs : List JobData) (found : Option JobData) → find_job s jobs ≡ found → is_out new.phase ≡ false
    → IsChange distinct s e (find_job s jobs) (find_job s (jobs ++ new ∷ []))
push_change distinct s e new jobs None is quiet =
    is_quiet distinct s e (find_job s jobs) (find_job s (jobs ++ new ∷ [])) (ap is_out_of is)
    (λ _. ap is_out_of (push_none s new jobs is) ∙ cond_both (new.seq == s) (Some new) None (λ (o : Option JobData). is_out_of o ≡ false) (λ _. quiet) (λ _. refl))
push_change distinct s e new jobs (Some job) is quiet =
    subst (λ (o : Option JobData). IsChange distinct s e (find_job s jobs) o) (is ∙ sym (push_found s new jobs job is)) (stays_so distinct s e (find_job s jobs))

-- a job that is given up is out as before
abbrev IsGone : Type 0 → ℕ → Event → JobData → Option JobData → Type 0
IsGone distinct s e job None = ⊤
IsGone distinct s e job (Some new) = IsChange distinct s e (Some job) (Some new)

leaves : (distinct : Type 0) (s : ℕ) (e : Event) (job : JobData) (slice : ℕ) → job.phase ≡ Out slice → IsChange distinct s e (Some job) (Some (record job { phase = Leaving slice }))
leaves distinct s e job slice is = record {
  stays = λ one same out other.
      let one_is : job ≡ one = cc in
      subst (λ (j : JobData). IsSameTurn j (Some (record job { phase = Leaving slice }))) one_is
      (record { new = record job { phase = Leaving slice }; found = refl; plan = refl; nodes = refl; left = refl; turn = λ most turn. sym (ap (is_turn most) is) ∙ turn });
  goes = λ _ _. inl (ap is_out is);
}

gone_change : (distinct : Type 0) (s : ℕ) (e : Event) (job : JobData) (phase : Phase) → job.phase ≡ phase → IsGone distinct s e job (given_up job phase)
gone_change distinct s e job Waiting is = is_quiet distinct s e (Some job) (Some (record job { phase = Cancelled; left = 0; here = false })) (ap is_out is) (λ _. refl)
gone_change distinct s e job (Out slice) is = leaves distinct s e job slice is
gone_change distinct s e job (Leaving slice) is = tt
gone_change distinct s e job Dry is = is_quiet distinct s e (Some job) (Some (record job { phase = Cancelled; left = 0; here = false })) (ap is_out is) (λ _. refl)
gone_change distinct s e job Closed is = tt
gone_change distinct s e job Cancelled is = tt

not_out : (phase : Phase) → is_ended phase ≡ true → is_out phase ≡ false
not_out Waiting ended = refl
not_out (Out slice) ended = absurd (cc)
not_out (Leaving slice) ended = absurd (cc)
not_out Dry ended = refl
not_out Closed ended = refl
not_out Cancelled ended = refl

drop_change : (s n : ℕ) (e : Event) (job : JobData) (jobs : List JobData) → find_job n jobs ≡ Some job → is_out job.phase ≡ false
    → IsChange (AreDistinct jobs) s e (find_job s jobs) (find_job s (drop_job n jobs))
drop_change s n e job jobs found quiet =
    ⊎_elim
    (λ (same : s ≡ n).
    is_quiet (AreDistinct jobs) s e (find_job s jobs) (find_job s (drop_job n jobs)) (ap (λ k. is_out_of (find_job k jobs)) same ∙ ap is_out_of found ∙ quiet)
    (λ distinct. ap (λ k. is_out_of (find_job s (drop_job k jobs))) (sym same) ∙ ap is_out_of (drop_own s jobs distinct)))
    (λ (other : s ≡ n → ⊥).
    subst (λ (o : Option JobData). IsChange (AreDistinct jobs) s e (find_job s jobs) o) (sym (drop_other s n jobs other)) (stays_so (AreDistinct jobs) s e (find_job s jobs)))
    (cases_eq s n)

waits_here : (phase : Phase) → is_waiting phase ≡ true → is_out phase ≡ false
waits_here Waiting w = refl
waits_here (Out slice) w = absurd (cc)
waits_here (Leaving slice) w = absurd (cc)
waits_here Dry w = refl
waits_here Closed w = refl
waits_here Cancelled w = refl

-- a phase is out or counts for none
counted : (phase : Phase) → out_in phase ≡ 0 → is_out phase ≡ false
counted Waiting none = refl
counted (Out slice) none = absurd (cc)
counted (Leaving slice) none = absurd (cc)
counted Dry none = refl
counted Closed none = refl
counted Cancelled none = refl

back_here : (ran : ℕ) (job : JobData) → is_out (back ran job).phase ≡ false
back_here ran job =
    let stands = after_back job.phase (is_closed job.plan (job.nodes + ran)) ran job.left in
    counted (back ran job).phase stands.0

changes : (s : ℕ) (t : Tenant) → Cases t (λ e f. Changes s e t (done t f))
changes s t = record {
  full = λ e. stays s e t;
  idle = λ e. stays s e t;
  notes = λ e answer room note. stays s e t;
  adds = λ plan quanta room some. push_change (AreDistinct t.jobs) s (Submit plan quanta) (fresh_job t plan quanta) t.jobs (find_job s t.jobs) refl refl;
  funds = λ n quanta job room found can.
      let new : JobData = record job { phase = Waiting; left = job.left + quanta } in
      put_change (AreDistinct t.jobs) s n (Fund n quanta) job new t.jobs found refl (λ _. is_quiet (AreDistinct t.jobs) s (Fund n quanta) (Some job) (Some new) can.here (λ _. refl));
  cancels = λ n job new room found gone.
      put_change (AreDistinct t.jobs) s n (Cancel n) job new t.jobs found (gone_less job new gone).0
      (λ _. subst (IsGone (AreDistinct t.jobs) s (Cancel n) job) gone (gone_change (AreDistinct t.jobs) s (Cancel n) job job.phase refl));
  drops = λ n job room found ended.
      subst (λ k. IsChange (AreDistinct t.jobs) s (Forget n) (find_job s t.jobs) (find_job s (drop_job k t.jobs))) (sym (found_seq n t.jobs job found))
      (drop_change s n (Forget n) job t.jobs found (not_out job.phase ended));
  takes = λ n slice job room found waits.
      let here : is_out job.phase ≡ false = waits_here job.phase waits in
      put_change (AreDistinct t.jobs) s n (Take n slice) job (gone_out slice job) t.jobs found refl
      (λ same. record {
        stays = λ one is_one out other. let one_is : job ≡ one = cc in absurd (both_ways (is_out one.phase) (sym (ap (λ (j : JobData). is_out j.phase) one_is) ∙ here) out);
        goes = λ _ _. inr (eq-eqb n s (sym same));
      });
  gives = λ n ran job found may.
      let new : JobData = back ran job in
      put_change (AreDistinct t.jobs) s n (Give n ran) job new t.jobs found refl
      (λ same. record {
        stays = λ one is_one out other. absurd (both_ways (n == s) other (eq-eqb n s (sym same)));
        goes = λ _ out. absurd (both_ways (is_out new.phase) (back_here ran job) out);
      });
}

pub step_changes : (s : ℕ) (t : Tenant) (e : Event) → Changes s e t (step t e)
step_changes s t e = each_decision t (λ e f. Changes s e t (done t f)) (changes s t) e

-- a phase in which a turn for some slice is out
turn_out : (slice : ℕ) (phase : Phase) → is_turn slice phase ≡ true → is_out phase ≡ true
turn_out slice Waiting turn = absurd (cc)
turn_out slice (Out most) turn = refl
turn_out slice (Leaving most) turn = refl
turn_out slice Dry turn = absurd (cc)
turn_out slice Closed turn = absurd (cc)
turn_out slice Cancelled turn = absurd (cc)

pub turns_stay_held : TurnsStayHeld
turns_stay_held old new t e answer h u s slice m it other =
    ⊎_elim
    (λ (same : u ≡ t).
    let jobs : (view u new).jobs ≡ (step (view t old) e).after.jobs = ap (λ k. (view k new).jobs) same ∙ ap (λ (v : Tenant). v.jobs) h.own in
    let found : find_job s (view t old).jobs ≡ Some it.job = ap (λ k. find_job s (view k old).jobs) (sym same) ∙ it.found in
    let then = (step_changes s (view t old) e).stays it.job found (turn_out slice it.job.phase it.own.turn) (other (sym same)) in
    record {
      job = then.new;
      found = ap (find_job s) jobs ∙ then.found;
      own = record {
        turn = then.turn slice it.own.turn;
        owner = it.own.owner;
        plan = it.own.plan ∙ sym then.plan;
        nodes = omega (arith, it.own.nodes, then.nodes);
        left = omega (arith, it.own.left, then.left);
      };
      best = it.best;
    })
    (λ (differ : u ≡ t → ⊥). record { job = it.job; found = ap (find_job s) (jobs_stay old new t e answer (steps_of old new t e answer h) u differ) ∙ it.found; own = it.own; best = it.best })
    (cases_eq u t)

-- a turn was sent, and not refused
record WasSent (t : Tenant) (s slice : ℕ) (job : JobData) (f : Effect) : Type 0 where
  here : is_out job.phase ≡ false
  out : find_job s (done t f).after.jobs ≡ Some (gone_out slice job)

was_sent : (t : Tenant) (s slice : ℕ) (job : JobData) (line : Line) → find_job s t.jobs ≡ Some job → Sent line ≡ (done t (to_take t slice job)).answer → WasSent t s slice job (to_take t slice job)
was_sent t s slice job line found =
    let new : JobData = gone_out slice job in
    let seq : job.seq ≡ s = found_seq s t.jobs job found in
    cond_both (is_waiting job.phase && is_slice slice && has_room 2 t) (effect.Changes new 0 (Sent (line_of new))) (Nothing NoTurn)
    (λ (f : Effect). Sent line ≡ (done t f).answer → WasSent t s slice job f)
    (λ may _. record {
      here = waits_here job.phase (and_parts (is_waiting job.phase) (is_slice slice) (and_parts (is_waiting job.phase && is_slice slice) (has_room 2 t) may).0).0;
      out = ap (λ k. find_job s (put_job k new t.jobs)) seq ∙ put_own s job new t.jobs found seq;
    })
    (λ _ is. absurd (cc))

taken_was_sent : (old new : World) (t s slice : ℕ) (m : Meaning) → (it : IsTaken old t s slice m new) → WasSent (view t old) s slice it.job (to_take (view t old) slice it.job)
taken_was_sent old new t s slice m it =
    was_sent (view t old) s slice it.job (line_of (gone_out slice it.job)) it.found
    (it.follows.answer_is ∙ ap (λ (there : Option JobData). (done (view t old) (about (Nothing NoTurn) (to_take (view t old) slice) there)).answer) it.found)

pub taken_jobs_were_not_out : TakenJobsWereNotOut
taken_jobs_were_not_out old new t s slice m it = ap is_out_of it.found ∙ (taken_was_sent old new t s slice m it).here

-- and its job is out
pub taken_out : (old new : World) (t s slice : ℕ) (m : Meaning) → (it : IsTaken old t s slice m new) → find_job s (view t new).jobs ≡ Some (gone_out slice it.job)
taken_out old new t s slice m it =
    ap (λ (v : Tenant). find_job s v.jobs) it.follows.own
    ∙ ap (λ (there : Option JobData). find_job s (done (view t old) (about (Nothing NoTurn) (to_take (view t old) slice) there)).after.jobs) it.found ∙ (taken_was_sent old new t s slice m it).out

pub taken_turns_are_held : TakenTurnsAreHeld
taken_turns_are_held old new t s slice m it =
    record {
      job = gone_out slice it.job;
      found = taken_out old new t s slice m it;
      own = record {
        turn = eq-eqb slice slice refl;
        owner = ap (λ (x : Meaning). x.tenant) it.search;
        plan = ap (λ (x : Meaning). x.plan) it.search;
        nodes = omega (arith, ap (λ (x : Meaning). x.nodes) it.search);
        left = omega (arith, ap (λ (x : Meaning). x.left) it.search);
      };
      best = ap (λ (x : Meaning). x.taken) it.search;
    }

nodes_most : (slice : ℕ) (m : Meaning) → nodes_within slice m ≤ m.left
unfolding nodes_within
nodes_most slice m = omega (arith, first_from-most (λ r. is_closed m.plan (m.nodes + r)) (min slice m.left) 0)

pub held_turns_are_no_strangers : HeldTurnsAreNoStrangers
held_turns_are_no_strangers w t s slice m after it =
    let there = own_row w t s it.job it.found in
    let ran : ℕ = nodes_within slice m in (
      (λ is strange. strange it.job there
          (record {
            turn = it.own.turn;
            owner = ap (λ (x : Meaning). x.tenant) is ∙ it.own.owner;
            plan = ap (λ (x : Meaning). x.plan) is ∙ it.own.plan;
            nodes = omega (arith, ap (λ (x : Meaning). x.nodes) is, it.own.nodes);
            left = omega (arith, ap (λ (x : Meaning). x.left) is, it.own.left, nodes_most slice m);
          })),
      (λ strange. strange it.job there it.own),
    )

-- the nodes of an own turn
own_nodes : (slice : ℕ) (m : Meaning) (job : JobData) → m.plan ≡ job.plan → m.nodes ≡ job.nodes → m.left ≡ job.left → nodes_within slice m ≡ nodes_of_turn (min slice job.left) job
unfolding nodes_within nodes_of_turn
own_nodes slice m job plan nodes left =
    ap (λ (p : Plan). first_from (λ r. is_closed p (m.nodes + r)) (min slice m.left) 0) plan
    ∙ ap (λ n. first_from (λ r. is_closed job.plan (n + r)) (min slice m.left) 0) nodes
    ∙ ap (λ n. first_from (λ r. is_closed job.plan (job.nodes + r)) (min slice n) 0) left

out_nodes : (slice : ℕ) (job : JobData) (phase : Phase) → is_turn slice phase ≡ true → nodes_of_turn (min slice job.left) job ≡ nodes_out_in job phase
out_nodes slice job Waiting turn = absurd (cc)
out_nodes slice job (Out most) turn = ap (λ n. nodes_of_turn (min n job.left) job) (sym (eqb-true most slice turn))
out_nodes slice job (Leaving most) turn = ap (λ n. nodes_of_turn (min n job.left) job) (sym (eqb-true most slice turn))
out_nodes slice job Dry turn = absurd (cc)
out_nodes slice job Closed turn = absurd (cc)
out_nodes slice job Cancelled turn = absurd (cc)

pub held_turns_run_their_nodes : HeldTurnsRunTheirNodes
held_turns_run_their_nodes w t s slice m it =
    own_nodes slice m it.job it.own.plan (omega (arith, it.own.nodes)) (omega (arith, it.own.left)) ∙ out_nodes slice it.job it.job.phase it.own.turn ∙ ap nodes_out (sym it.found)

distinct_in : (w : World) → IsOfJournal w → (t : ℕ) → t < length w.config.tenants → AreDistinct (view t w).jobs
distinct_in w replayed t known =
    let place = place_in w.config t in
    let seen : view t w ≡ seat (after_alone (opened_purse w.config (purse_in w.config t)) (events_of w.config (purse_in w.config t) w.journal)) place =
    each_view_is_a_seat w t known ∙ ap (λ (p : Purse). seat p place) (replayed (purse_in w.config t)) in
    subst (λ (v : Tenant). AreDistinct v.jobs) (sym seen) (alone_distinct (member_lines w.config.tenants (purse_in w.config t)) (events_of w.config (purse_in w.config t) w.journal) place)

pub only_taken_jobs_are_out : OnlyTakenJobsAreOut
only_taken_jobs_are_out old new t e answer replayed h u s out =
    ⊎_elim
    (λ (same : u ≡ t).
    let after : is_out_of (find_job s (step (view t old) e).after.jobs) ≡ true = sym (ap (λ k. is_out_of (find_job s (view k new).jobs)) same ∙ ap (λ (v : Tenant). is_out_of (find_job s v.jobs)) h.own) ∙ out in
    ⊎_elim (λ (was : is_out_of (find_job s (view t old).jobs) ≡ true). inl (ap (λ k. is_out_of (find_job s (view k old).jobs)) same ∙ was))
    (λ (now : takes s e ≡ true). inr (sym same, now))
    ((step_changes s (view t old) e).goes (distinct_in old replayed t h.known) after))
    (λ (differ : u ≡ t → ⊥). inl (sym (ap (λ (jobs : List JobData). is_out_of (find_job s jobs)) (jobs_stay old new t e answer (steps_of old new t e answer h) u differ)) ∙ out))
    (cases_eq u t)

-- a turn was given, and not refused
given_back : (t : Tenant) (s ran : ℕ) (answer : Reply) → Replied answer ≡ (step t (Give s ran)).answer → is_out_of (find_job s (step t (Give s ran)).after.jobs) ≡ false
given_back t s ran answer = by (find_job s t.jobs) refl
  where
    by : (found : Option JobData) → find_job s t.jobs ≡ found → let it : Step = done t (about (Nothing NoTurn) (to_give ran) found) in Replied answer ≡ it.answer → is_out_of (find_job s it.after.jobs) ≡ false
    by None is told = absurd (cc)
    by (Some job) is told =
        let new : JobData = back ran job in
        cond_both (may_have_run ran job job.phase) (effect.Changes new ran (Replied (reply.Ran ran (line_of new)))) (Nothing NoTurn)
        (λ (f : Effect). Replied answer ≡ (done t f).answer → is_out_of (find_job s (done t f).after.jobs) ≡ false)
        (λ _ _. let seq : job.seq ≡ s = found_seq s t.jobs job is in ap is_out_of (ap (λ k. find_job s (put_job k new t.jobs)) seq ∙ put_own s job new t.jobs is seq) ∙ back_here ran job)
        (λ _ e. absurd (cc)) told

pub given_jobs_are_not_out : GivenJobsAreNotOut
given_jobs_are_not_out old new t s ran reply h =
    ap (λ (v : Tenant). is_out_of (find_job s v.jobs)) h.own ∙ given_back (view t old) s ran reply h.answer_is
