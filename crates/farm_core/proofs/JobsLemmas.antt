-- What the table is once a job's work and its phase have changed.
use Rattle.std.proofs.Common.{◌≡◌, ℕ, ◌+◌, ◌-◌, Bool, true, false, cond, List, Option, Some, None, is_some, option_map, refl, sym, ap, ◌∙◌, subst, arith}
use Rattle.strategy.specs.Outcome.{is_closed}
use Rattle.strategy.specs.Search.{Meaning}
use Rattle.strategy.specs.declared.plan.Plan.{Plan}
use Rattle.job_table.specs.Table.{JobData, Row, TableData, find_row, change_job}
use Rattle.job_table.specs.Job.{gone_out, meaning_of, given_up, is_here, phase_after, back, IsOwn, IsSent, IsBack, IsFunded, IsGivenUp}
use Rattle.job_table.specs.Lent.{WorkData, search_of, returned, with_work, in_phase, change_found, IsLent}
use Rattle.job_table.specs.declared.phase.Phase.{Phase}
use Rattle.job_table.specs.declared.phase.Phase.TheVariants.{Waiting, Out, Leaving, Dry, Closed, Cancelled}
use Rattle.job_table.proofs.LentLemmas.{both_changed, still_found, kept_here}

-- the job that was lent is the one that is found
same_found : (o : Option JobData) (job other : JobData) → o ≡ Some job → o ≡ Some other → job ≡ other
same_found o job other a b = let both : Some job ≡ Some other = sym a ∙ b in cc

pub lent_is : {J : Type 0} (rows : List Row) (t s : ℕ) (work : WorkData J) (job : JobData) → IsLent rows t s work → find_row t s rows ≡ Some job → with_work work job ≡ job
lent_is rows t s work job it found = let same : it.job ≡ job = same_found (find_row t s rows) it.job job it.found found in subst (λ (j : JobData). with_work work j ≡ j) same it.lent

-- a job whose phase is known
phase_case : (o : Option JobData) (job : JobData) (phase : Phase) → Some phase ≡ option_map (λ j. j.phase) o → o ≡ Some job → job.phase ≡ phase
phase_case o job phase told found = let both : Some phase ≡ Some job.phase = told ∙ ap (option_map (λ j. j.phase)) found in cc

pub lent_phase : {J : Type 0} (rows : List Row) (t s : ℕ) (work : WorkData J) (phase : Phase) (it : IsLent rows t s work) → Some phase ≡ option_map (λ j. j.phase) (find_row t s rows) → it.job.phase ≡ phase
lent_phase rows t s work phase it told = phase_case (find_row t s rows) it.job phase told it.found

-- where other work was written, and then another phase
pub moved_on : {J : Type 0} (old mid new : TableData) (t s : ℕ) (work then : WorkData J) (phase : Phase) (it : IsLent old.rows t s work) → mid ≡ change_found t s (with_work then) old → new ≡ change_found t s (in_phase phase) mid
    → new ≡ change_job t s it.job (in_phase phase (with_work then it.job)) old
moved_on old mid new t s work then phase it written put = put ∙ ap (change_found t s (in_phase phase)) written ∙ both_changed t s old it.job then phase it.found

changed_as : (t s : ℕ) (job then same : JobData) (old new : TableData) → new ≡ change_job t s job then old → then ≡ same → new ≡ change_job t s job same old
changed_as t s job then same old new is e = is ∙ ap (λ j. change_job t s job j old) e

-- so that the phase is put
pub is_put : {J : Type 0} (old mid : TableData) (t s : ℕ) (work then : WorkData J) (put : Bool) → IsLent old.rows t s work → mid ≡ change_found t s (with_work then) old → put ≡ is_some (find_row t s mid.rows) → put ≡ true
is_put old mid t s work then put it written told = told ∙ ap (λ (d : TableData). is_some (find_row t s d.rows)) written ∙ ap is_some (still_found t s old it.job then it.found)

pub sent_out : {J : Type 0} (old mid new : TableData) (t s slice : ℕ) (m : Meaning) (work then : WorkData J) (it : IsLent old.rows t s work) → Some Waiting ≡ option_map (λ j. j.phase) (find_row t s old.rows)
    → m ≡ search_of t work → is_closed work.plan work.nodes ≡ false → then ≡ record work { search = None } → mid ≡ change_found t s (with_work then) old → new ≡ change_found t s (in_phase (Out slice)) mid → IsSent old t s slice m new
sent_out old mid new t s slice m work then it told search going sent written put =
    let job = it.job in
    let after : with_work then job ≡ record job { here = false } = ap (λ w. with_work w job) sent ∙ ap (λ (j : JobData). record j { here = false }) it.lent in
    record {
      job = job;
      found = it.found;
      waits = lent_phase old.rows t s work Waiting it told;
      going = ap (λ (j : JobData). is_closed j.plan j.nodes) (sym it.lent) ∙ going;
      search = search ∙ ap (meaning_of t) it.lent;
      after = changed_as t s job (in_phase (Out slice) (with_work then job)) (gone_out slice job) old new (moved_on old mid new t s work then (Out slice) it written put) (ap (in_phase (Out slice)) after);
    }

pub funded_so : {J : Type 0} (old mid new : TableData) (t s quanta : ℕ) (phase : Phase) (work then : WorkData J) (it : IsLent old.rows t s work) → Some phase ≡ option_map (λ j. j.phase) (find_row t s old.rows) → is_here phase ≡ true
    → then ≡ record work { left = work.left + quanta; search = then.search } → (is_some then.search ≡ true) × (is_some work.search ≡ true) → mid ≡ change_found t s (with_work then) old → new ≡ change_found t s (in_phase Waiting) mid → IsFunded old t s quanta new
funded_so old mid new t s quanta phase work then it told here drawn with written put =
    let job = it.job in
    let after : with_work then job ≡ record job { left = job.left + quanta } =
    ap (λ w. with_work w job) drawn ∙ ap (λ b. record job { plan = work.plan; nodes = work.nodes; left = work.left + quanta; here = b }) (with.0 ∙ sym with.1) ∙ ap (λ (j : JobData). record j { left = j.left + quanta }) it.lent in
    record {
      job = job;
      found = it.found;
      here = ap is_here (lent_phase old.rows t s work phase it told) ∙ here;
      after = changed_as t s job (in_phase Waiting (with_work then job)) (record job { phase = Waiting; left = job.left + quanta }) old new (moved_on old mid new t s work then Waiting it written put) (ap (in_phase Waiting) after);
    }

here_gone : (job : JobData) (phase : Phase) → is_here phase ≡ true → given_up job phase ≡ Some (record job { phase = Cancelled; left = 0; here = false })
here_gone job Waiting here = refl
here_gone job (Out n) here = absurd (cc)
here_gone job (Leaving n) here = absurd (cc)
here_gone job Dry here = refl
here_gone job Closed here = absurd (cc)
here_gone job Cancelled here = absurd (cc)

pub dropped_so : {J : Type 0} (old mid new : TableData) (t s : ℕ) (phase : Phase) (work then : WorkData J) (it : IsLent old.rows t s work) → Some phase ≡ option_map (λ j. j.phase) (find_row t s old.rows) → is_here phase ≡ true
    → then ≡ record work { left = 0; search = None } → mid ≡ change_found t s (with_work then) old → new ≡ change_found t s (in_phase Cancelled) mid → IsGivenUp old t s new
dropped_so old mid new t s phase work then it told here gone written put =
    let job = it.job in
    let after : with_work then job ≡ record job { left = 0; here = false } = ap (λ w. with_work w job) gone ∙ ap (λ (j : JobData). record j { left = 0; here = false }) it.lent in
    record {
      job = job;
      then = record job { phase = Cancelled; left = 0; here = false };
      found = it.found;
      gone = here_gone job job.phase (ap is_here (lent_phase old.rows t s work phase it told) ∙ here);
      after = changed_as t s job (in_phase Cancelled (with_work then job)) (record job { phase = Cancelled; left = 0; here = false }) old new (moved_on old mid new t s work then Cancelled it written put) (ap (in_phase Cancelled) after);
    }

-- what a search that is a job's own leaves of it
back_is : {J : Type 0} (t slice ran : ℕ) (search : J) (m : Meaning) (job : JobData) (work : WorkData J) (phase : Phase) → IsOwn t slice ran m job → with_work work job ≡ job → phase ≡ phase_after job.phase (is_closed work.plan m.nodes) m.left
    → in_phase phase (with_work (returned (is_here phase) search m work) job) ≡ back ran job
back_is t slice ran search m job work phase own lent stands =
    let left : m.left ≡ job.left - ran = omega (arith, own.left) in
    let plan : work.plan ≡ job.plan = ap (λ (j : JobData). j.plan) lent in
    let put : phase ≡ phase_after job.phase (is_closed job.plan (job.nodes + ran)) (job.left - ran) =
    stands ∙ ap (λ (p : Plan). phase_after job.phase (is_closed p m.nodes) m.left) plan ∙ ap (λ n. phase_after job.phase (is_closed job.plan n) m.left) own.nodes ∙ ap (phase_after job.phase (is_closed job.plan (job.nodes + ran))) left in
    let made : Plan → ℕ → ℕ → Phase → JobData = λ p n l f. record job { plan = p; nodes = n; left = cond (is_here f) l 0; phase = f; here = is_here f } in
    ap (λ b. record job { plan = work.plan; nodes = m.nodes; left = cond (is_here phase) m.left 0; phase = phase; here = b }) (kept_here (is_here phase) search)
    ∙ ap (λ p. made p m.nodes m.left phase) plan ∙ ap (λ n. made job.plan n m.left phase) own.nodes ∙ ap (λ l. made job.plan (job.nodes + ran) l phase) left ∙ ap (made job.plan (job.nodes + ran) (job.left - ran)) put

pub back_so : {J : Type 0} (old mid new : TableData) (t s slice ran : ℕ) (search : J) (m : Meaning) (job : JobData) (work then : WorkData J) (phase : Phase) → find_row t s old.rows ≡ Some job → IsOwn t slice ran m job → IsLent old.rows t s work
    → phase ≡ phase_after job.phase (is_closed work.plan m.nodes) m.left → then ≡ returned (is_here phase) search m work → mid ≡ change_found t s (with_work then) old → new ≡ change_found t s (in_phase phase) mid → IsBack old t s slice ran m new
back_so old mid new t s slice ran search m job work then phase found own lent stands was written put =
    let mine : with_work work job ≡ job = lent_is old.rows t s work job lent found in
    let same : in_phase phase (with_work then job) ≡ back ran job = ap (λ w. in_phase phase (with_work w job)) was ∙ back_is t slice ran search m job work phase own mine stands in
    let is : new ≡ change_job t s job (in_phase phase (with_work then job)) old = put ∙ ap (change_found t s (in_phase phase)) written ∙ both_changed t s old job then phase found in
    record { job = job; found = found; own = own; after = changed_as t s job (in_phase phase (with_work then job)) (back ran job) old new is same }
