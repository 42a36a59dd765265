-- What holds of each tenant's part of a farm after any calls.
use Rattle.std.proofs.Common.{◌≡◌, ℕ, ◌+◌, ◌-◌, ◌≤◌, List, [], ◌∷◌, ◌++◌, length, filter, Bool, true, cond, ◌==◌, Option, Some, None, refl, sym, ap, ◌∙◌, subst, arith, zero, suc, ◌<◌, ◌≢◌, map, ⊎_elim, sum_by}
use Rattle.std.specs.Prelude.{⊤}
use Rattle.std.proofs.lemmas.Bool.{cond_both, leb-true, cases_eq}
use Rattle.std.proofs.lemmas.List.Sums.{sum_by-cons}
use Rattle.tenant_book.specs.Book.{BookData}
use Rattle.std.proofs.lemmas.Bool.Decides.{nat_tests}
use Rattle.strategy.specs.Outcome.{is_closed}
use Rattle.job_table.specs.Table.{JobData, is_out, is_ended}
use Rattle.job_table.specs.Job.{gone_out, given_up, is_here, phase_after, back}
use Rattle.job_table.specs.declared.phase.Phase.{Phase}
use Rattle.job_table.specs.declared.phase.Phase.TheVariants.{Waiting, Out, Leaving, Dry, Closed, Cancelled}
use Rattle.farm_core.specs.declared.entry.Event.{Event}
use Rattle.farm_core.specs.declared.reply.Reply.TheVariants as reply
use Rattle.farm_core.specs.Tenant.{Tenant, Member, new_member, newcomers, seated_at, held_beside, held, held_by, book, free, kept, find_job, put_job, drop_job, line_of}
use Rattle.farm_core.specs.Step.{Answer, Replied, Sent, Effect, Changes, done, step, has_room, fresh_job}
use Rattle.farm_core.specs.declared.config.TenantLine.{TenantLine}
use Rattle.farm_core.specs.Config.{ConfigData, member_lines}
use Rattle.farm_core.specs.World.{World, Call, terms_in, purse_in, place_in, opened, spent_in, member, purse, view, Steps, Leads, Run}
use Rattle.farm_core.proofs.DecisionLemmas.{Cases, each_decision}
use Rattle.farm_core.proofs.AloneLemmas.{seen_opened}
use Rattle.farm_core.proofs.CountLemmas.{step_counted}
use Rattle.farm_core.proofs.SeatLemmas.{one_ledger, view_stays}
use Rattle.farm_core.proofs.NeedLemmas.{turn_ran}

-- how many of these have their turn out
abbrev pub outs : List JobData → ℕ
outs jobs = length (filter (λ (job : JobData). is_out job.phase) jobs)

abbrev pub out_in : Phase → ℕ
out_in phase = cond (is_out phase) 1 0

-- no job ran more than was spent, and one that has ended holds nothing
abbrev pub IsPaid : ℕ → JobData → Type 0
IsPaid spent job = (job.nodes ≤ spent) × (is_ended job.phase ≡ true → job.left ≡ 0)

abbrev pub ArePaid : ℕ → List JobData → Type 0
ArePaid spent [] = ⊤
ArePaid spent (job ∷ jobs) = IsPaid spent job × ArePaid spent jobs

pub record IsRunning (t : Tenant) : Type 0 where
  pub within : t.used + kept t ≤ t.terms.entries
  pub few : t.next ≤ t.used + 1
  pub jobs : ArePaid t.spent t.jobs
  pub covered : held t + t.spent ≤ t.granted

abbrev Runs : Effect → Tenant → Type 0
Runs f t = IsRunning (done t f).after

outs_put : (s : ℕ) (old new : JobData) (jobs : List JobData) → find_job s jobs ≡ Some old → outs (put_job s new jobs) + out_in old.phase ≡ outs jobs + out_in new.phase
outs_put s old new [] found = absurd (cc)
outs_put s old new (job ∷ jobs) found = grind (arith, nat_tests, outs_put s old new jobs)

pub held_put : (s : ℕ) (old new : JobData) (jobs : List JobData) → find_job s jobs ≡ Some old → held_by (put_job s new jobs) + old.left ≡ held_by jobs + new.left
held_put s old new [] found = absurd (cc)
held_put s old new (job ∷ jobs) found = grind (arith, nat_tests, held_put s old new jobs)

outs_drop : (s : ℕ) (jobs : List JobData) → outs (drop_job s jobs) ≤ outs jobs
outs_drop s [] = omega arith
outs_drop s (job ∷ jobs) = grind (arith, nat_tests, outs_drop s jobs)

pub held_drop : (s : ℕ) (old : JobData) (jobs : List JobData) → find_job s jobs ≡ Some old → held_by (drop_job s jobs) + old.left ≡ held_by jobs
held_drop s old [] found = absurd (cc)
held_drop s old (job ∷ jobs) found = grind (arith, nat_tests, held_drop s old jobs)

outs_push : (new : JobData) (jobs : List JobData) → outs (jobs ++ new ∷ []) ≡ outs jobs + out_in new.phase
outs_push new [] = grind (arith, nat_tests)
outs_push new (job ∷ jobs) = grind (arith, nat_tests, outs_push new jobs)

pub held_push : (new : JobData) (jobs : List JobData) → held_by (jobs ++ new ∷ []) ≡ held_by jobs + new.left
held_push new [] = omega arith
held_push new (job ∷ jobs) = omega (arith, held_push new jobs)

paid_more : (n m : ℕ) (jobs : List JobData) → n ≤ m → ArePaid n jobs → ArePaid m jobs
paid_more n m [] l all = tt
paid_more n m (job ∷ jobs) l all = ((omega (arith, all.0.0), all.0.1), paid_more n m jobs l all.1)

paid_put : (n s : ℕ) (new : JobData) (jobs : List JobData) → IsPaid n new → ArePaid n jobs → ArePaid n (put_job s new jobs)
paid_put n s new [] one all = tt
paid_put n s new (job ∷ jobs) one all =
    cond_both (job.seq == s) (new ∷ jobs) (job ∷ put_job s new jobs) (ArePaid n) (λ _. (one, all.1)) (λ _. (all.0, paid_put n s new jobs one all.1))

paid_drop : (n s : ℕ) (jobs : List JobData) → ArePaid n jobs → ArePaid n (drop_job s jobs)
paid_drop n s [] all = tt
paid_drop n s (job ∷ jobs) all =
    cond_both (job.seq == s) jobs (job ∷ drop_job s jobs) (ArePaid n) (λ _. all.1) (λ _. (all.0, paid_drop n s jobs all.1))

paid_push : (n : ℕ) (new : JobData) (jobs : List JobData) → IsPaid n new → ArePaid n jobs → ArePaid n (jobs ++ new ∷ [])
paid_push n new [] one all = (one, tt)
paid_push n new (job ∷ jobs) one all = (all.0, paid_push n new jobs one all.1)

pub paid_found : (n s : ℕ) (jobs : List JobData) (job : JobData) → find_job s jobs ≡ Some job → ArePaid n jobs → IsPaid n job
paid_found n s [] job found all = absurd (cc)
paid_found n s (one ∷ jobs) job found all = cond_both (one.seq == s) (Some one) (find_job s jobs) (λ (o : Option JobData). o ≡ Some job → IsPaid n job)
    (λ _ e. let same : one ≡ job = cc in subst (IsPaid n) same all.0) (λ _ e. paid_found n s jobs job e all.1) found

pub found_seq : (s : ℕ) (jobs : List JobData) (job : JobData) → find_job s jobs ≡ Some job → job.seq ≡ s
found_seq s [] job found = absurd (cc)
found_seq s (one ∷ jobs) job found = grind (arith, nat_tests, found_seq s jobs job)

pub found_held : (s : ℕ) (jobs : List JobData) (job : JobData) → find_job s jobs ≡ Some job → job.left ≤ held_by jobs
found_held s [] job found = absurd (cc)
found_held s (one ∷ jobs) job found = grind (arith, nat_tests, found_held s jobs job)

room_is : (n : ℕ) (t : Tenant) → has_room n t ≡ true → t.used + kept t + n ≤ t.terms.entries
room_is n t room = leb-true (t.used + kept t + n) t.terms.entries room

noted_runs : (t : Tenant) → has_room 1 t ≡ true → IsRunning t → IsRunning (record t { used = t.used + 1 })
unfolding kept held
noted_runs t room it = record { within = omega (arith, room_is 1 t room); few = omega (arith, it.few); jobs = it.jobs; covered = it.covered }

-- one job changed, after so many nodes
record IsFit (t : Tenant) (job new : JobData) (ran : ℕ) : Type 0 where
  entries : t.used + 1 + kept t + out_in new.phase ≤ t.terms.entries + out_in job.phase
  paid : IsPaid (t.spent + ran) new
  covered : held t + new.left + ran + t.spent ≤ t.granted + job.left

changed_runs : (t : Tenant) (s : ℕ) (job new : JobData) (ran : ℕ) (answer : Answer) → find_job s t.jobs ≡ Some job → new.seq ≡ job.seq → IsFit t job new ran → IsRunning t
    → Runs (Changes new ran answer) t
unfolding kept held
changed_runs t s job new ran answer found named fit it =
    subst (λ (n : ℕ). IsRunning (record t { used = t.used + 1; spent = t.spent + ran; jobs = put_job n new t.jobs })) (sym (named ∙ found_seq s t.jobs job found))
    (record {
      within = omega (arith, fit.entries, outs_put s job new t.jobs found);
      few = omega (arith, it.few);
      jobs = paid_put (t.spent + ran) s new t.jobs fit.paid (paid_more t.spent (t.spent + ran) t.jobs (omega arith) it.jobs);
      covered = omega (arith, fit.covered, held_put s job new t.jobs found);
    })

-- a job that is given up is out as before, or it has ended and holds nothing
abbrev pub IsLess : JobData → Option JobData → Type 0
IsLess job None = ⊤
IsLess job (Some new) = (new.seq ≡ job.seq) × (new.nodes ≡ job.nodes) × (out_in new.phase ≡ out_in job.phase) × (new.left ≤ job.left) × (is_ended new.phase ≡ true → new.left ≡ 0)

given_up_less : (job : JobData) (phase : Phase) → job.phase ≡ phase → IsLess job (given_up job phase)
given_up_less job Waiting is = (refl, refl, rw is refl, omega arith, λ e. refl)
given_up_less job (Out slice) is = (refl, refl, rw is refl, omega arith, λ e. absurd (cc))
given_up_less job (Leaving slice) is = tt
given_up_less job Dry is = (refl, refl, rw is refl, omega arith, λ e. refl)
given_up_less job Closed is = tt
given_up_less job Cancelled is = tt

pub gone_less : (job new : JobData) → given_up job job.phase ≡ Some new → IsLess job (Some new)
gone_less job new gone = subst (IsLess job) gone (given_up_less job job.phase refl)

-- a turn that came back is no longer out, and holds what it had less what it ran, or nothing
abbrev pub IsBack : ℕ → ℕ → Phase → Type 0
IsBack ran left phase = (out_in phase ≡ 0) × (is_ended phase ≡ true → cond (is_here phase) (left - ran) 0 ≡ 0) × (cond (is_here phase) (left - ran) 0 ≤ left - ran)

pub after_back : (phase : Phase) (closed : Bool) (ran left : ℕ) → IsBack ran left (phase_after phase closed (left - ran))
after_back (Leaving slice) closed ran left = (refl, λ e. refl, omega arith)
after_back Waiting closed ran left = cond_both closed Closed (cond (left - ran == 0) Dry Waiting) (IsBack ran left) (λ _. (refl, λ e. refl, omega arith)) (λ _. cond_both (left - ran == 0) Dry Waiting (IsBack ran left) (λ _. (refl, λ e. absurd (cc), omega arith)) (λ _. (refl, λ e. absurd (cc), omega arith)))
after_back (Out slice) closed ran left = cond_both closed Closed (cond (left - ran == 0) Dry Waiting) (IsBack ran left) (λ _. (refl, λ e. refl, omega arith)) (λ _. cond_both (left - ran == 0) Dry Waiting (IsBack ran left) (λ _. (refl, λ e. absurd (cc), omega arith)) (λ _. (refl, λ e. absurd (cc), omega arith)))
after_back Dry closed ran left = cond_both closed Closed (cond (left - ran == 0) Dry Waiting) (IsBack ran left) (λ _. (refl, λ e. refl, omega arith)) (λ _. cond_both (left - ran == 0) Dry Waiting (IsBack ran left) (λ _. (refl, λ e. absurd (cc), omega arith)) (λ _. (refl, λ e. absurd (cc), omega arith)))
after_back Closed closed ran left = cond_both closed Closed (cond (left - ran == 0) Dry Waiting) (IsBack ran left) (λ _. (refl, λ e. refl, omega arith)) (λ _. cond_both (left - ran == 0) Dry Waiting (IsBack ran left) (λ _. (refl, λ e. absurd (cc), omega arith)) (λ _. (refl, λ e. absurd (cc), omega arith)))
after_back Cancelled closed ran left = cond_both closed Closed (cond (left - ran == 0) Dry Waiting) (IsBack ran left) (λ _. (refl, λ e. refl, omega arith)) (λ _. cond_both (left - ran == 0) Dry Waiting (IsBack ran left) (λ _. (refl, λ e. absurd (cc), omega arith)) (λ _. (refl, λ e. absurd (cc), omega arith)))

runs : (t : Tenant) → IsRunning t → Cases t (λ e f. Runs f t)
unfolding kept held free
runs t it = record {
  full = λ e. it;
  idle = λ e. it;
  notes = λ e answer room note. noted_runs t room it;
  adds = λ plan quanta room some.
      let job : JobData = fresh_job t plan quanta in
      record {
        within = omega (arith, room_is 1 t room, outs_push job t.jobs);
        few = omega (arith, it.few);
        jobs = paid_push t.spent job t.jobs (omega arith, λ e. absurd (cc)) it.jobs;
        covered = omega (arith, it.covered, leb-true quanta (free t) some, held_push job t.jobs);
      };
  funds = λ s quanta job room found can.
      let new : JobData = record job { phase = Waiting; left = job.left + quanta } in
      changed_runs t s job new 0 (Replied (reply.Line (line_of new))) found refl
      (record {
        entries = omega (arith, room_is 1 t room);
        paid = (omega (arith, (paid_found t.spent s t.jobs job found it.jobs).0), λ e. absurd (cc));
        covered = omega (arith, it.covered, leb-true quanta (free t) can.some);
      }) it;
  cancels = λ s job new room found gone.
      let less = gone_less job new gone in
      changed_runs t s job new 0 (Replied (reply.Line (line_of new))) found less.0
      (record {
        entries = omega (arith, room_is 1 t room, less.2);
        paid = (omega (arith, less.1, (paid_found t.spent s t.jobs job found it.jobs).0), less.4);
        covered = omega (arith, it.covered, less.3);
      }) it;
  drops = λ s job room found ended.
      subst (λ (n : ℕ). IsRunning (record t { used = t.used + 1; jobs = drop_job n t.jobs })) (sym (found_seq s t.jobs job found))
      (record {
        within = omega (arith, room_is 1 t room, outs_drop s t.jobs);
        few = omega (arith, it.few);
        jobs = paid_drop t.spent s t.jobs it.jobs;
        covered = omega (arith, it.covered, held_drop s job t.jobs found);
      });
  takes = λ s slice job room found waits.
      let new : JobData = gone_out slice job in
      changed_runs t s job new 0 (Sent (line_of new)) found refl
      (record {
        entries = omega (arith, room_is 2 t room);
        paid = (omega (arith, (paid_found t.spent s t.jobs job found it.jobs).0), λ e. absurd (cc));
        covered = omega (arith, it.covered);
      }) it;
  gives = λ s ran job found may.
      let new : JobData = back ran job in
      let turn = turn_ran job job.phase ran may in
      let stands = after_back job.phase (is_closed job.plan (job.nodes + ran)) ran job.left in
      changed_runs t s job new ran (Replied (reply.Ran ran (line_of new))) found refl
      (record {
        entries = omega (arith, it.within, ap {B = ℕ} (λ (b : Bool). cond b 1 0) turn.0, stands.0);
        paid = (omega (arith, (paid_found t.spent s t.jobs job found it.jobs).0), stands.1);
        covered = omega (arith, it.covered, stands.2, turn.1);
      }) it;
}

step_runs : (t : Tenant) (e : Event) → IsRunning t → IsRunning (step t e).after
step_runs t e it = each_decision t (λ e f. Runs f t) (runs t it) e

-- ---- along a run

-- each tenant's part is so
abbrev AllRun : World → Type 0
AllRun w = (u : ℕ) → u < length w.config.tenants → IsRunning (view u w)

ledger_spent : (a b : Tenant) → book a ≡ book b → a.spent ≡ b.spent
unfolding book
ledger_spent a b e = ap (λ (x : BookData). x.spent) e

ledger_held : (a b : Tenant) → book a ≡ book b → held a ≡ held b
unfolding book
ledger_held a b e = ap (λ (x : BookData). x.held) e

ledger_granted : (a b : Tenant) → book a ≡ book b → a.granted ≡ b.granted
unfolding book
ledger_granted a b e = ap (λ (x : BookData). x.granted) e

-- another tenant of the caller's purse sees that more was spent, and no more than was granted
mate_runs : (old mid : World) (t u : ℕ) (event : Event) (answer : Answer) → u < length old.config.tenants → u ≢ t → purse_in old.config u ≡ purse_in old.config t
    → Steps old t event answer mid → IsRunning (view u old) → IsRunning (view t mid) → IsRunning (view u mid)
unfolding view purse kept
mate_runs old mid t u event answer known differ same h was caller =
    let m : member u mid ≡ member u old = h.others u differ in
    let config = h.config in
    let at : (v : ℕ) → purse_in mid.config v ≡ purse_in old.config v = λ v. ap (λ (c : ConfigData). purse_in c v) config in
    let one : book (view u mid) ≡ book (view t mid) =
    one_ledger t u mid (subst (λ (c : ConfigData). t < length c.tenants) (sym config) h.known) (subst (λ (c : ConfigData). u < length c.tenants) (sym config) known) (at u ∙ same ∙ sym (at t)) in
    let spent_now : (view u mid).spent ≡ (view t mid).spent = ledger_spent (view u mid) (view t mid) one in
    let spent_was : (view u old).spent ≡ (view t old).spent = ap (λ p. spent_in p old) same in
    let more : (view t old).spent ≤ (view t mid).spent = subst (λ (v : Tenant). (view t old).spent ≤ v.spent) (sym h.own) (step_counted (view t old) event).spends in
    record {
      within = subst (λ (x : Member). x.used + outs x.jobs ≤ x.terms.entries) (sym m) was.within;
      few = subst (λ (x : Member). x.next ≤ x.used + 1) (sym m) was.few;
      jobs = paid_more (view u old).spent (view u mid).spent (view u mid).jobs (omega arith) (subst (λ (x : Member). ArePaid (view u old).spent x.jobs) (sym m) was.jobs);
      covered = omega (arith, caller.covered, ledger_held (view u mid) (view t mid) one, spent_now, ledger_granted (view u mid) (view t mid) one);
    }

all_run : (old mid : World) (t : ℕ) (event : Event) (answer : Answer) → Steps old t event answer mid → AllRun old → AllRun mid
all_run old mid t event answer h all u known =
    let before : u < length old.config.tenants = subst (λ (c : ConfigData). u < length c.tenants) h.config known in
    let caller : IsRunning (view t mid) = subst IsRunning (sym h.own) (step_runs (view t old) event (all t h.known)) in
    ⊎_elim
    (λ (e : u ≡ t). subst (λ n. IsRunning (view n mid)) (sym e) caller)
    (λ (ne : u ≡ t → ⊥).
    ⊎_elim
    (λ (e : purse_in old.config u ≡ purse_in old.config t). mate_runs old mid t u event answer before ne e h (all u before) caller)
    (λ (no : purse_in old.config u ≡ purse_in old.config t → ⊥). subst IsRunning (sym (view_stays old mid t event answer h u no)) (all u before))
    (cases_eq (purse_in old.config u) (purse_in old.config t)))
    (cases_eq u t)

pub no_held : (lines : List TenantLine) (place : ℕ) → held_beside place (map new_member lines) ≡ 0
no_held [] place = refl
no_held (line ∷ lines) zero = none lines
  where
    none : (ls : List TenantLine) → sum_by (λ (m : Member). held_by m.jobs) (map new_member ls) ≡ 0
    none [] = refl
    none (l ∷ ls) = omega (arith, sum_by-cons (λ (m : Member). held_by m.jobs) (new_member l) (map new_member ls), none ls)
no_held (line ∷ lines) (suc place) = omega (arith, no_held lines place)

seat_runs : (place : ℕ) (lines : List TenantLine) (line : TenantLine) → IsRunning (seated_at place (newcomers lines) (new_member line))
unfolding newcomers kept held
seat_runs place lines line = record { within = omega arith; few = omega arith; jobs = tt; covered = omega (arith, no_held lines place) }

opened_runs : (config : ConfigData) → AllRun (opened config)
opened_runs config u known =
    subst IsRunning (sym (seen_opened u config)) (seat_runs (place_in config u) (member_lines config.tenants (purse_in config u)) (terms_in config u))

leads_run : (old new : World) (calls : List Call) → Leads old calls new → AllRun old → AllRun new
leads_run old new [] run all = subst AllRun (sym run) all
leads_run old new (c ∷ calls) run all = leads_run run.0 new calls run.2 (all_run old run.0 c.tenant c.event c.answer run.1 all)

pub run_runs : (config : ConfigData) (calls : List Call) (w : World) → Run config calls w → AllRun w
run_runs config calls w run = leads_run (opened config) w calls run (opened_runs config)
