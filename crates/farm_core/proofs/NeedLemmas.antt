-- How many nodes a tenant's jobs have run.
use Rattle.std.proofs.Common.{◌≡◌, ◌≢◌, ℕ, zero, suc, ◌+◌, ◌-◌, ◌<◌, ◌≤◌, min, List, [], ◌∷◌, ◌++◌, Bool, true, false, cond, ◌||◌, ◌==◌, Option, Some, None, refl, sym, ◌∙◌, subst, arith, ⊎_elim, ◌⊎◌, inl, inr, eq-eqb, map, get_or, set, ap}
use Rattle.std.specs.Prelude.{⊤}
use Rattle.std.proofs.lemmas.Bool.{cond_both, cond-true, cond-false, cases_lt, cases_Bool, eqb-true, or_cases, both_ways}
use Rattle.std.proofs.lemmas.Bool.Decides.{nat_tests}
use Rattle.mrcpsp.specs.Numbers.{first_from}
use Rattle.mrcpsp.proofs.NumbersLemmas.{first_from-le}
use Rattle.strategy.specs.Outcome.{is_closed}
use Rattle.strategy.specs.declared.plan.Plan.{Plan}
use Rattle.job_table.specs.Table.{JobData, is_waiting, is_out, is_ended}
use Rattle.job_table.specs.Job.{gone_out, given_up, is_here, phase_after, back}
use Rattle.job_table.specs.declared.phase.Phase.{Phase}
use Rattle.job_table.specs.declared.phase.Phase.TheVariants.{Waiting, Out, Leaving, Dry, Closed, Cancelled}
use Rattle.farm_core.specs.declared.entry.Event.{Event}
use Rattle.farm_core.specs.declared.entry.Event.TheVariants.{Submit, Fund, Cancel, Forget, Take, Give}
use Rattle.farm_core.specs.declared.reply.Reply.TheVariants as reply
use Rattle.farm_core.specs.Tenant.{Tenant, Member, Purse, new_member, newcomers, no_member, seat, own_of, with_seat, find_job, put_job, drop_job, line_of, nodes_of_turn}
use Rattle.farm_core.specs.Step.{Answer, Replied, Sent, NoTurn, Step, Changes, done, step, fresh_job, may_have_run}
use Rattle.farm_core.specs.declared.config.TenantLine.{TenantLine}
use Rattle.farm_core.specs.Config.{ConfigData}
use Rattle.farm_core.specs.World.{World, Call, Asked, opened, view, Steps, Leads, Run, after_alone}
use Rattle.farm_core.specs.Need.{given_by, given_to, accepted, nodes_for, HasRunItsNodes, NodesAreTheLesser}
use Rattle.farm_core.proofs.DecisionLemmas.{Cases, each_decision, unasked}
use Rattle.farm_core.proofs.PlaceLemmas.{first_from-most}
use Rattle.farm_core.proofs.AloneLemmas.{member_opened}

-- the search of a plan is not over before n nodes
abbrev pub Unclosed : Plan → ℕ → Type 0
Unclosed plan n = (j : ℕ) → j < n → is_closed plan j ≡ false

-- what the job has run and holds is what it was given, but where it has ended
abbrev FundedIn : Phase → Plan → ℕ → ℕ → ℕ → Type 0
FundedIn Waiting plan nodes left given = (nodes + left ≡ given) × Unclosed plan nodes
FundedIn (Out slice) plan nodes left given = (nodes + left ≡ given) × Unclosed plan nodes
FundedIn (Leaving slice) plan nodes left given = (nodes + left ≡ given) × Unclosed plan nodes
FundedIn Dry plan nodes left given = (nodes + left ≡ given) × Unclosed plan nodes × (left ≡ 0)
FundedIn Closed plan nodes left given = (nodes ≤ given) × Unclosed plan nodes × (is_closed plan nodes ≡ true)
FundedIn Cancelled plan nodes left given = ⊤

abbrev pub IsFunded : (ℕ → ℕ) → JobData → Type 0
IsFunded g job = FundedIn job.phase job.plan job.nodes job.left (g job.seq)

abbrev pub IsNumberOf : ℕ → List JobData → Type 0
IsNumberOf s [] = ⊥
IsNumberOf s (job ∷ jobs) = (job.seq ≡ s) ⊎ IsNumberOf s jobs

-- each job has a number of its own below the next one, and was given what it has
abbrev AreFunded : (ℕ → ℕ) → ℕ → List JobData → Type 0
AreFunded g next [] = ⊤
AreFunded g next (job ∷ jobs) = IsFunded g job × (job.seq < next) × (IsNumberOf job.seq jobs → ⊥) × AreFunded g next jobs

pub record IsKept (g : ℕ → ℕ) (t : Tenant) : Type 0 where
  pub jobs : AreFunded g t.next t.jobs
  pub later : (s : ℕ) → t.next ≤ s → g s ≡ 0

-- only the value of what was given counts
same_given : (g h : ℕ → ℕ) (next : ℕ) (jobs : List JobData) → ((s : ℕ) → IsNumberOf s jobs → g s ≡ h s) → AreFunded g next jobs → AreFunded h next jobs
same_given g h next [] same all = tt
same_given g h next (job ∷ jobs) same all =
    let here : g job.seq ≡ h job.seq = same job.seq (inl refl) in
    (subst (λ n. FundedIn job.phase job.plan job.nodes job.left n) here all.0, all.1, all.2, same_given g h next jobs (λ s i. same s (inr i)) all.3)

number_put : (s n : ℕ) (new : JobData) (jobs : List JobData) → new.seq ≡ n → IsNumberOf s (put_job n new jobs) → IsNumberOf s jobs
number_put s n new [] named h = h
number_put s n new (job ∷ jobs) named there =
    (cond_both (job.seq == n) (new ∷ jobs) (job ∷ put_job n new jobs) (λ (js : List JobData). IsNumberOf s js → IsNumberOf s (job ∷ jobs))
    (λ e h. ⊎_elim (λ (i : new.seq ≡ s). inl (omega (arith, eqb-true job.seq n e))) (λ (i : IsNumberOf s jobs). inr i) h)
    (λ _ h. ⊎_elim (λ (i : job.seq ≡ s). inl i) (λ (i : IsNumberOf s (put_job n new jobs)). inr (number_put s n new jobs named i)) h)) there

put_funded : (g h : ℕ → ℕ) (next n : ℕ) (new : JobData) (jobs : List JobData) → new.seq ≡ n → ((s : ℕ) → s ≢ n → g s ≡ h s) → IsFunded h new → AreFunded g next jobs → AreFunded h next (put_job n new jobs)
put_funded g h next n new [] named same one all = tt
put_funded g h next n new (job ∷ jobs) named same one all =
    cond_both (job.seq == n) (new ∷ jobs) (job ∷ put_job n new jobs) (AreFunded h next)
    (λ e.
    let eq : job.seq ≡ n = eqb-true job.seq n e in (
      one,
      omega (arith, all.1),
      (λ i. all.2 (subst (λ x. IsNumberOf x jobs) (named ∙ sym eq) i)),
      same_given g h next jobs (λ s i. same s (λ (is : s ≡ n). all.2 (subst (λ x. IsNumberOf x jobs) (is ∙ sym eq) i))) all.3,
    ))
    (λ e.
    let ne : job.seq ≢ n = λ (is : job.seq ≡ n). both_ways (job.seq == n) e (eq-eqb job.seq n is) in (
      subst (λ x. FundedIn job.phase job.plan job.nodes job.left x) (same job.seq ne) all.0,
      all.1,
      (λ i. all.2 (number_put job.seq n new jobs named i)),
      put_funded g h next n new jobs named same one all.3,
    ))

number_drop : (s n : ℕ) (jobs : List JobData) → IsNumberOf s (drop_job n jobs) → IsNumberOf s jobs
number_drop s n [] h = h
number_drop s n (job ∷ jobs) there =
    (cond_both (job.seq == n) jobs (job ∷ drop_job n jobs) (λ (js : List JobData). IsNumberOf s js → IsNumberOf s (job ∷ jobs))
    (λ _ i. inr i)
    (λ _ h. ⊎_elim (λ (i : job.seq ≡ s). inl i) (λ (i : IsNumberOf s (drop_job n jobs)). inr (number_drop s n jobs i)) h)) there

drop_funded : (g : ℕ → ℕ) (next n : ℕ) (jobs : List JobData) → AreFunded g next jobs → AreFunded g next (drop_job n jobs)
drop_funded g next n [] all = tt
drop_funded g next n (job ∷ jobs) all =
    cond_both (job.seq == n) jobs (job ∷ drop_job n jobs) (AreFunded g next)
    (λ _. all.3)
    (λ _. (all.0, all.1, (λ i. all.2 (number_drop job.seq n jobs i)), drop_funded g next n jobs all.3))

number_push : (s : ℕ) (new : JobData) (jobs : List JobData) → IsNumberOf s (jobs ++ new ∷ []) → IsNumberOf s jobs ⊎ (new.seq ≡ s)
number_push s new [] h = ⊎_elim (λ (i : new.seq ≡ s). inr i) (λ (i : ⊥). absurd i) h
number_push s new (job ∷ jobs) h =
    ⊎_elim (λ (i : job.seq ≡ s). inl (inl i))
    (λ (i : IsNumberOf s (jobs ++ new ∷ [])). ⊎_elim (λ (k : IsNumberOf s jobs). inl (inr k)) (λ (k : new.seq ≡ s). inr k) (number_push s new jobs i)) h

push_funded : (g h : ℕ → ℕ) (next : ℕ) (new : JobData) (jobs : List JobData) → new.seq ≡ next → ((s : ℕ) → s < next → g s ≡ h s) → IsFunded h new → AreFunded g next jobs → AreFunded h (next + 1) (jobs ++ new ∷ [])
push_funded g h next new [] named same one all = (one, omega arith, (λ i. i), tt)
push_funded g h next new (job ∷ jobs) named same one all = (
  subst (λ x. FundedIn job.phase job.plan job.nodes job.left x) (same job.seq all.1) all.0,
  omega (arith, all.1),
  (λ i. ⊎_elim (λ (k : IsNumberOf job.seq jobs). all.2 k) (λ (k : new.seq ≡ job.seq). absurd (omega (arith, all.1))) (number_push job.seq new jobs i)),
  push_funded g h next new jobs named same one all.3,
)

found_funded : (g : ℕ → ℕ) (next s : ℕ) (jobs : List JobData) (job : JobData) → find_job s jobs ≡ Some job → AreFunded g next jobs → IsFunded g job × (job.seq ≡ s) × (job.seq < next)
found_funded g next s [] job found all = absurd (cc)
found_funded g next s (one ∷ jobs) job found all =
    ⊎_elim
    (λ (e : (one.seq == s) ≡ true).
    let same : Some one ≡ Some job = sym (cond-true (one.seq == s) (Some one) (find_job s jobs) e) ∙ found in
    let eq : one ≡ job = cc in
    subst (λ (j : JobData). IsFunded g j × (j.seq ≡ s) × (j.seq < next)) eq (all.0, eqb-true one.seq s e, all.1))
    (λ (e : (one.seq == s) ≡ false). found_funded g next s jobs job (sym (cond-false (one.seq == s) (Some one) (find_job s jobs) e) ∙ found) all.3)
    (cases_Bool (one.seq == s))

-- what was given after a call
abbrev pub Given : (ℕ → ℕ) → Event → Answer → ℕ → ℕ
Given g e answer s = g s + given_by s e answer

abbrev Keeps : (ℕ → ℕ) → Event → Step → Type 0
Keeps g e step = IsKept (Given g e step.answer) step.after

-- an answer that gives nothing, and jobs that stay
stays : (g : ℕ → ℕ) (e : Event) (t : Tenant) (answer : Answer) (used : ℕ) → ((s : ℕ) → given_by s e answer ≡ 0) → IsKept g t → Keeps g e (record { answer = answer; after = record t { used = used } })
stays g e t answer used none kept = record {
  jobs = same_given g (Given g e answer) t.next t.jobs (λ s i. omega (arith, none s)) kept.jobs;
  later = λ s after. omega (arith, none s, kept.later s after);
}

-- the same with one job changed
changes : (g : ℕ → ℕ) (e : Event) (t : Tenant) (answer : Answer) (ran : ℕ) (new : JobData) → ((s : ℕ) → s ≢ new.seq → given_by s e answer ≡ 0) → new.seq < t.next
    → IsFunded (Given g e answer) new → IsKept g t → Keeps g e (done t (Changes new ran answer))
changes g e t answer ran new none below one kept = record {
  jobs = put_funded g (Given g e answer) t.next new.seq new t.jobs refl (λ s other. omega (arith, none s other)) one kept.jobs;
  later = λ s after. omega (arith, none s (λ (i : s ≡ new.seq). absurd (omega arith)), kept.later s after);
}

-- a call that asks for nothing gives nothing
gives_none : (s : ℕ) (e : Event) (answer : Answer) → accepted e answer ≡ [] → given_by s e answer ≡ 0
gives_none s (Submit plan quanta) (Replied (reply.Job n)) none = absurd (cc)
gives_none s (Fund n quanta) (Replied (reply.Line line)) none = absurd (cc)
gives_none s e answer none = refl

given_other : (s n quanta : ℕ) → s ≢ n → cond (n == s) quanta 0 ≡ 0
given_other s n quanta other = grind (arith, nat_tests)

given_own : (n quanta : ℕ) → cond (n == n) quanta 0 ≡ quanta
given_own n quanta = grind (arith, nat_tests)

none_unclosed : (plan : Plan) → Unclosed plan 0
none_unclosed plan j l = absurd (omega arith)

-- a job that waits or is dry has what it was given
held_by_it : (phase : Phase) (plan : Plan) (nodes left given : ℕ) → is_out phase ≡ false → is_ended phase ≡ false → FundedIn phase plan nodes left given → (nodes + left ≡ given) × Unclosed plan nodes
held_by_it Waiting plan nodes left given o e h = h
held_by_it (Out slice) plan nodes left given o e h = h
held_by_it (Leaving slice) plan nodes left given o e h = h
held_by_it Dry plan nodes left given o e h = (h.0, h.1)
held_by_it Closed plan nodes left given o e h = absurd (cc)
held_by_it Cancelled plan nodes left given o e h = absurd (cc)

waits : (phase : Phase) (plan : Plan) (nodes left given : ℕ) → is_waiting phase ≡ true → FundedIn phase plan nodes left given → (nodes + left ≡ given) × Unclosed plan nodes
waits Waiting plan nodes left given w h = h
waits (Out slice) plan nodes left given w h = absurd (cc)
waits (Leaving slice) plan nodes left given w h = absurd (cc)
waits Dry plan nodes left given w h = absurd (cc)
waits Closed plan nodes left given w h = absurd (cc)
waits Cancelled plan nodes left given w h = absurd (cc)

abbrev IsGivenUp : (ℕ → ℕ) → JobData → Option JobData → Type 0
IsGivenUp g job None = ⊤
IsGivenUp g job (Some new) = IsFunded g new × (new.seq ≡ job.seq)

given_up_funded : (g : ℕ → ℕ) (job : JobData) (phase : Phase) → FundedIn phase job.plan job.nodes job.left (g job.seq) → IsGivenUp g job (given_up job phase)
given_up_funded g job Waiting h = (tt, refl)
given_up_funded g job (Out slice) h = (h, refl)
given_up_funded g job (Leaving slice) h = tt
given_up_funded g job Dry h = (tt, refl)
given_up_funded g job Closed h = tt
given_up_funded g job Cancelled h = tt

funded_same : (g h : ℕ → ℕ) (job : JobData) → g job.seq ≡ h job.seq → IsFunded g job → IsFunded h job
funded_same g h job same one = subst (λ n. FundedIn job.phase job.plan job.nodes job.left n) same one

-- a turn stops where the search is over
turn_unclosed : (most : ℕ) (job : JobData) (r : ℕ) → r < nodes_of_turn most job → is_closed job.plan (job.nodes + r) ≡ false
unfolding nodes_of_turn
turn_unclosed most job r l =
    ⊎_elim
    (λ (e : is_closed job.plan (job.nodes + r) ≡ true). absurd (omega (arith, first_from-le (λ k. is_closed job.plan (job.nodes + k)) most 0 r (omega arith) e)))
    (λ (e : is_closed job.plan (job.nodes + r) ≡ false). e)
    (cases_Bool (is_closed job.plan (job.nodes + r)))

turn_most : (most : ℕ) (job : JobData) → nodes_of_turn most job ≤ most
unfolding nodes_of_turn
turn_most most job = omega (arith, first_from-most (λ k. is_closed job.plan (job.nodes + k)) most 0)

-- what a turn ran was there, and before each of its nodes the search was not over
abbrev pub IsTurn : JobData → ℕ → Type 0
IsTurn job ran = (ran ≤ job.left) × ((r : ℕ) → r < ran → is_closed job.plan (job.nodes + r) ≡ false)

pub turn_of : (slice ran : ℕ) (job : JobData) → ((ran == 0) || (ran == nodes_of_turn (min slice job.left) job)) ≡ true → IsTurn job ran
turn_of slice ran job may =
    ⊎_elim
    (λ (e : (ran == 0) ≡ true). let none : ran ≡ 0 = eqb-true ran 0 e in (omega arith, λ r l. absurd (omega arith)))
    (λ (e : (ran == nodes_of_turn (min slice job.left) job) ≡ true).
    let all : ran ≡ nodes_of_turn (min slice job.left) job = eqb-true ran (nodes_of_turn (min slice job.left) job) e in
    (omega (arith, turn_most (min slice job.left) job), λ r l. turn_unclosed (min slice job.left) job r (omega arith)))
    (or_cases (ran == 0) (ran == nodes_of_turn (min slice job.left) job) may)

-- a turn that came back was out, and ran no more than its job held
pub turn_ran : (job : JobData) (phase : Phase) (ran : ℕ) → may_have_run ran job phase ≡ true → (is_out phase ≡ true) × (ran ≤ job.left)
turn_ran job Waiting ran may = absurd (cc)
turn_ran job (Out slice) ran may = (refl, (turn_of slice ran job may).0)
turn_ran job (Leaving slice) ran may = (refl, (turn_of slice ran job may).0)
turn_ran job Dry ran may = absurd (cc)
turn_ran job Closed ran may = absurd (cc)
turn_ran job Cancelled ran may = absurd (cc)

-- the job after a turn, by where it stood
back_funded : (phase : Phase) (job : JobData) (ran given : ℕ) → may_have_run ran job phase ≡ true → FundedIn phase job.plan job.nodes job.left given
    → let left = job.left - ran in let stands = phase_after phase (is_closed job.plan (job.nodes + ran)) left in
    FundedIn stands job.plan (job.nodes + ran) (cond (is_here stands) left 0) given
back_funded Waiting job ran given may h = absurd (cc)
back_funded (Out slice) job ran given may h =
    let turn = turn_of slice ran job may in
    let unclosed : Unclosed job.plan (job.nodes + ran) = λ j l.
    ⊎_elim (λ (before : j < job.nodes). h.1 j before)
    (λ (after : job.nodes ≤ j). let at : job.nodes + (j - job.nodes) ≡ j = omega arith in subst (λ n. is_closed job.plan n ≡ false) at (turn.1 (j - job.nodes) (omega arith)))
    (cases_lt j job.nodes) in
    let left : ℕ = job.left - ran in
    let Good : Phase → Type 0 = λ stands. FundedIn stands job.plan (job.nodes + ran) (cond (is_here stands) left 0) given in
    cond_both (is_closed job.plan (job.nodes + ran)) Closed (cond (left == 0) Dry Waiting) Good
    (λ over. (omega (arith, h.0, turn.0), unclosed, over))
    (λ going. cond_both (left == 0) Dry Waiting Good
    (λ none. (omega (arith, h.0, turn.0), unclosed, eqb-true left 0 none))
    (λ some. (omega (arith, h.0, turn.0), unclosed)))
back_funded (Leaving slice) job ran given may h = tt
back_funded Dry job ran given may h = absurd (cc)
back_funded Closed job ran given may h = absurd (cc)
back_funded Cancelled job ran given may h = absurd (cc)

keeps : (g : ℕ → ℕ) (t : Tenant) → IsKept g t → Cases t (λ e f. Keeps g e (done t f))
keeps g t kept = record {
  full = λ e. stays g e t (Replied reply.NoRoom) t.used (λ s. gives_none s e (Replied reply.NoRoom) (unasked e).0) kept;
  idle = λ e. stays g e t NoTurn t.used (λ s. gives_none s e NoTurn (unasked e).1) kept;
  notes = λ e answer room note. stays g e t (Replied answer) (t.used + 1) (λ s. gives_none s e (Replied answer) note.accepted) kept;
  adds = λ plan quanta room some.
      let made : Answer = Replied (reply.Job t.next) in
      let e : Event = Submit plan quanta in
      let own : Given g e made t.next ≡ quanta = omega (arith, kept.later t.next (omega arith), given_own t.next quanta) in
      record {
        jobs = push_funded g (Given g e made) t.next (fresh_job t plan quanta) t.jobs refl (λ s l. omega (arith, given_other s t.next quanta (λ (i : s ≡ t.next). absurd (omega arith))))
            (omega (arith, own), none_unclosed plan) kept.jobs;
        later = λ s l. omega (arith, kept.later s (omega arith), given_other s t.next quanta (λ (i : s ≡ t.next). absurd (omega arith)));
      };
  funds = λ s quanta job room found can.
      let it = found_funded g t.next s t.jobs job found kept.jobs in
      let new : JobData = record job { phase = Waiting; left = job.left + quanta } in
      let e : Event = Fund s quanta in
      let told : Answer = Replied (reply.Line (line_of new)) in
      let own : given_by job.seq e told ≡ quanta = rw it.1 (given_own s quanta) in
      let had = held_by_it job.phase job.plan job.nodes job.left (g job.seq) can.here can.going it.0 in
      changes g e t told 0 new (λ n ne. given_other n s quanta (λ (i : n ≡ s). ne (i ∙ sym it.1))) it.2 (omega (arith, had.0, own), had.1) kept;
  cancels = λ s job new room found gone.
      let it = found_funded g t.next s t.jobs job found kept.jobs in
      let told : Answer = Replied (reply.Line (line_of new)) in
      let up : IsGivenUp g job (Some new) = subst (IsGivenUp g job) gone (given_up_funded g job job.phase it.0) in
      changes g (Cancel s) t told 0 new (λ n ne. refl) (omega (arith, up.1, it.2)) (funded_same g (Given g (Cancel s) told) new (omega arith) up.0) kept;
  drops = λ s job room found ended. record {
    jobs = same_given g (Given g (Forget s) (Replied (reply.Forgotten job.seq))) t.next (drop_job job.seq t.jobs) (λ n i. omega arith) (drop_funded g t.next job.seq t.jobs kept.jobs);
    later = λ n l. omega (arith, kept.later n l);
  };
  takes = λ s slice job room found waiting.
      let it = found_funded g t.next s t.jobs job found kept.jobs in
      let new : JobData = gone_out slice job in
      let had = waits job.phase job.plan job.nodes job.left (g job.seq) waiting it.0 in
      changes g (Take s slice) t (Sent (line_of new)) 0 new (λ n ne. refl) it.2 (omega (arith, had.0), had.1) kept;
  gives = λ s ran job found may.
      let it = found_funded g t.next s t.jobs job found kept.jobs in
      let new : JobData = back ran job in
      let told : Answer = Replied (reply.Ran ran (line_of new)) in
      changes g (Give s ran) t told ran new (λ n ne. refl) it.2
      (funded_same g (Given g (Give s ran) told) new (omega arith) (back_funded job.phase job ran (g job.seq) may it.0)) kept;
}

step_keeps : (g : ℕ → ℕ) (t : Tenant) (e : Event) → IsKept g t → Keeps g e (step t e)
step_keeps g t e kept = each_decision t (λ e f. Keeps g e (done t f)) (keeps g t kept) e

same_kept : (g h : ℕ → ℕ) (t : Tenant) → ((s : ℕ) → g s ≡ h s) → IsKept g t → IsKept h t
same_kept g h t same kept = record {
  jobs = same_given g h t.next t.jobs (λ s i. same s) kept.jobs;
  later = λ s l. omega (arith, same s, kept.later s l);
}

-- ---- along a run

-- it is about a tenant's jobs and its next number alone
kept_as : (g : ℕ → ℕ) (one other : Tenant) → other.jobs ≡ one.jobs → other.next ≡ one.next → IsKept g one → IsKept g other
kept_as g one other jobs next kept = record {
  jobs = rw (next, jobs) kept.jobs;
  later = λ s l. kept.later s (omega (arith, next));
}

kept_own : (u : ℕ) (g : ℕ → ℕ) (old mid : World) (c : Call) → c.tenant ≡ u → Steps old c.tenant c.event c.answer mid → IsKept g (view u old) → IsKept (Given g c.event c.answer) (view u mid)
kept_own u g old mid c eq h kept =
    let f : Steps old u c.event c.answer mid = subst (λ (n : ℕ). Steps old n c.event c.answer mid) eq h in
    let stepped : IsKept (Given g c.event c.answer) (step (view u old) c.event).after =
    subst (λ (a : Answer). IsKept (Given g c.event a) (step (view u old) c.event).after) (sym f.answer_is) (step_keeps g (view u old) c.event kept) in
    subst (IsKept (Given g c.event c.answer)) (sym f.own) stepped

kept_other : (u : ℕ) (g : ℕ → ℕ) (old mid : World) (c : Call) → u ≢ c.tenant → Steps old c.tenant c.event c.answer mid → IsKept g (view u old) → IsKept g (view u mid)
unfolding view
kept_other u g old mid c differ h kept =
    kept_as g (view u old) (view u mid) (ap (λ (m : Member). m.jobs) (h.others u differ)) (ap (λ (m : Member). m.next) (h.others u differ)) kept

leads_keep : (u : ℕ) (g : ℕ → ℕ) (old new : World) (calls : List Call) → Leads old calls new → IsKept g (view u old) → IsKept (λ s. g s + given_to u calls s) (view u new)
leads_keep u g old new [] run kept = subst (λ (w : World). IsKept (λ s. g s + 0) (view u w)) (sym run) (same_kept g (λ s. g s + 0) (view u old) (λ s. omega arith) kept)
leads_keep u g old new (c ∷ calls) run kept =
    ⊎_elim
    (λ (e : (c.tenant == u) ≡ true).
    let own : c.tenant ≡ u = eqb-true c.tenant u e in
    same_kept (λ s. Given g c.event c.answer s + given_to u calls s) (λ s. g s + given_to u (c ∷ calls) s) (view u new)
    (λ s. let here = cond-true (c.tenant == u) (given_by s c.event c.answer) 0 e in omega arith)
    (leads_keep u (Given g c.event c.answer) run.0 new calls run.2 (kept_own u g old run.0 c own run.1 kept)))
    (λ (e : (c.tenant == u) ≡ false).
    let other : u ≢ c.tenant = λ (is : u ≡ c.tenant). both_ways (c.tenant == u) e (eq-eqb c.tenant u (sym is)) in
    same_kept (λ s. g s + given_to u calls s) (λ s. g s + given_to u (c ∷ calls) s) (view u new)
    (λ s. let here = cond-false (c.tenant == u) (given_by s c.event c.answer) 0 e in omega arith)
    (leads_keep u g run.0 new calls run.2 (kept_other u g old run.0 c other run.1 kept)))
    (cases_Bool (c.tenant == u))

opened_kept : (u : ℕ) (config : ConfigData) → IsKept (λ s. 0) (view u (opened config))
unfolding view
opened_kept u config =
    let m = member_opened u config in
    let jobs : (view u (opened config)).jobs ≡ [] = ap (λ (x : Member). x.jobs) m in
    record { jobs = rw jobs tt; later = λ s l. refl }

pub first_none : (test : ℕ → Bool) (k t : ℕ) → ((j : ℕ) → t ≤ j → j < t + k → test j ≡ false) → first_from test k t ≡ t + k
first_none test zero t h = omega arith
first_none test (suc k) t h =
    omega (arith, cond-false (test t) t (first_from test k (t + 1)) (h t (omega arith) (omega arith)), first_none test k (t + 1) (λ j l m. h j (omega arith) (omega arith)))

pub first_is : (test : ℕ → Bool) (k t n : ℕ) → t ≤ n → n ≤ t + k → test n ≡ true → ((j : ℕ) → t ≤ j → j < n → test j ≡ false) → first_from test k t ≡ n
first_is test zero t n l m here before = omega arith
first_is test (suc k) t n l m here before =
    ⊎_elim
    (λ (later : t < n). cond-false (test t) t (first_from test k (t + 1)) (before t (omega arith) later) ∙ first_is test k (t + 1) n (omega arith) (omega arith) here (λ j a b. before j (omega arith) b))
    (λ (now : n ≤ t). let same : t ≡ n = omega arith in cond-true (test t) t (first_from test k (t + 1)) (rw same here) ∙ same)
    (cases_lt t n)

ran_its_nodes : (g : ℕ → ℕ) (job : JobData) → IsFunded g job → HasRunItsNodes g job
unfolding nodes_for
ran_its_nodes g job it ended =
    ⊎_elim
    (λ (dry : job.phase ≡ Dry).
    let h : (job.nodes + job.left ≡ g job.seq) × Unclosed job.plan job.nodes × (job.left ≡ 0) = subst (λ (p : Phase). FundedIn p job.plan job.nodes job.left (g job.seq)) dry it in
    omega (arith, h.0, h.2, first_none (is_closed job.plan) (g job.seq) 0 (λ j l m. h.1 j (omega (arith, h.0, h.2)))))
    (λ (closed : job.phase ≡ Closed).
    let h : (job.nodes ≤ g job.seq) × Unclosed job.plan job.nodes × (is_closed job.plan job.nodes ≡ true) = subst (λ (p : Phase). FundedIn p job.plan job.nodes job.left (g job.seq)) closed it in
    sym (first_is (is_closed job.plan) (g job.seq) 0 job.nodes (omega arith) (omega (arith, h.0)) h.2 (λ j l m. h.1 j m)))
    ended

pub run_kept : (config : ConfigData) (calls : List Call) (w : World) → Run config calls w → (t : ℕ) → IsKept (given_to t calls) (view t w)
run_kept config calls w run t =
    same_kept (λ s. 0 + given_to t calls s) (given_to t calls) (view t w) (λ s. omega arith) (leads_keep t (λ s. 0) (opened config) w calls run (opened_kept t config))

pub nodes_are_the_lesser : NodesAreTheLesser
nodes_are_the_lesser config calls w run t job has =
    ran_its_nodes (given_to t calls) job (found_funded (given_to t calls) (view t w).next job.seq (view t w).jobs job has (run_kept config calls w run t).jobs).0

-- a tenant's jobs have different numbers
abbrev pub AreDistinct : List JobData → Type 0
AreDistinct [] = ⊤
AreDistinct (job ∷ jobs) = (IsNumberOf job.seq jobs → ⊥) × AreDistinct jobs

distinct_of : (g : ℕ → ℕ) (next : ℕ) (jobs : List JobData) → AreFunded g next jobs → AreDistinct jobs
distinct_of g next [] all = tt
distinct_of g next (job ∷ jobs) all = (all.2, distinct_of g next jobs all.3)

-- each of these jobs has a number below this one
abbrev pub AreBelow : ℕ → List JobData → Type 0
AreBelow next [] = ⊤
AreBelow next (job ∷ jobs) = (job.seq < next) × AreBelow next jobs

below_of : (g : ℕ → ℕ) (next : ℕ) (jobs : List JobData) → AreFunded g next jobs → AreBelow next jobs
below_of g next [] all = tt
below_of g next (job ∷ jobs) all = (all.1, below_of g next jobs all.3)

pub run_below : (config : ConfigData) (calls : List Call) (w : World) → Run config calls w → (t : ℕ) → AreBelow (view t w).next (view t w).jobs
run_below config calls w run t = below_of (given_to t calls) (view t w).next (view t w).jobs (run_kept config calls w run t).jobs

-- ---- along a purse's calls

-- each member's jobs are kept so, whatever each was given
abbrev AllKept : Purse → Type 0
AllKept p = (place : ℕ) → (g : ℕ → ℕ) × IsKept g (seat p place)

set_get : (ms : List Member) (k j : ℕ) (m : Member) → (get_or (set ms k m) j no_member ≡ m) ⊎ (get_or (set ms k m) j no_member ≡ get_or ms j no_member)
set_get [] k j m = inr refl
set_get (x ∷ ms) zero zero m = inl refl
set_get (x ∷ ms) zero (suc j) m = inr refl
set_get (x ∷ ms) (suc k) zero m = inr refl
set_get (x ∷ ms) (suc k) (suc j) m = set_get ms k j m

step_all : (p : Purse) (place : ℕ) (e : Event) → AllKept p → AllKept (with_seat p place (step (seat p place) e).after)
step_all p place e all j =
    let after : Tenant = (step (seat p place) e).after in
    let new : Purse = with_seat p place after in
    ⊎_elim
    (λ (is : get_or new.members j no_member ≡ own_of after).
    let had = all place in (
      Given had.0 e (step (seat p place) e).answer,
      kept_as (Given had.0 e (step (seat p place) e).answer) after (seat new j) (ap (λ (m : Member). m.jobs) is) (ap (λ (m : Member). m.next) is) (step_keeps had.0 (seat p place) e had.1),
    ))
    (λ (is : get_or new.members j no_member ≡ get_or p.members j no_member).
    let had = all j in
    (had.0, kept_as had.0 (seat p j) (seat new j) (ap (λ (m : Member). m.jobs) is) (ap (λ (m : Member). m.next) is) had.1))
    (set_get p.members place j (own_of after))

after_all : (p : Purse) (accepted : List Asked) → AllKept p → AllKept (after_alone p accepted)
after_all p [] all = all
after_all p (a ∷ accepted) all = after_all (with_seat p a.place (step (seat p a.place) a.event).after) accepted (step_all p a.place a.event all)

no_jobs : (lines : List TenantLine) (place : ℕ) → (get_or (map new_member lines) place no_member).jobs ≡ []
no_jobs [] place = refl
no_jobs (line ∷ lines) zero = refl
no_jobs (line ∷ lines) (suc place) = no_jobs lines place

newcomers_kept : (lines : List TenantLine) → AllKept (newcomers lines)
unfolding newcomers
newcomers_kept lines place = (λ s. 0, record { jobs = rw (no_jobs lines place) tt; later = λ s l. refl })

pub alone_distinct : (lines : List TenantLine) (accepted : List Asked) (place : ℕ) → AreDistinct (seat (after_alone (newcomers lines) accepted) place).jobs
alone_distinct lines accepted place =
    let p : Purse = after_alone (newcomers lines) accepted in
    let had = after_all (newcomers lines) accepted (newcomers_kept lines) place in
    distinct_of had.0 (seat p place).next (seat p place).jobs had.1.jobs
