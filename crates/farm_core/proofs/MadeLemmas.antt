-- Each call of a tenant that the farm has can be made: there is a world in which it was. So there are runs; and what their journals have.
use Rattle.std.proofs.Common.{◌≡◌, ◌≢◌, ℕ, suc, ◌+◌, ◌<◌, Bool, true, false, cond, not, List, [], ◌∷◌, ◌++◌, length, map, filter, ◌==◌, refl, sym, ap, ◌∙◌, arith, append_assoc, append-nil}
use Rattle.std.specs.Prelude.{All, flat_map}
use Rattle.std.proofs.lemmas.List.{length-set, length-map}
use Rattle.std.proofs.lemmas.Bool.Decides.{nat_tests}
use Rattle.tenant_book.specs.Book as book_of
use Rattle.job_table.specs.Table.{Row, JobData, TableData, jobs_of}
use Rattle.farm_core.specs.declared.account.Account.{Account}
use Rattle.farm_core.specs.declared.config.TenantLine.{TenantLine}
use Rattle.farm_core.specs.declared.entry.Entry.{Entry}
use Rattle.farm_core.specs.declared.entry.Event.{Event}
use Rattle.farm_core.specs.Tenant.{Tenant}
use Rattle.farm_core.specs.Step.{Answer, Step, step}
use Rattle.std.specs.List.{range_with_len}
use Rattle.tenant_book.specs.Book.{BookData}
use Rattle.farm_core.specs.declared.account.Numbers.{Numbers}
use Rattle.farm_core.specs.Config.{ConfigData, purse_names, member_lines, granted_by}
use Rattle.farm_core.specs.World.{World, Call, new_numbers, no_book, purse_in, purses_in, opened, member, view, entries_of, is_noted, entry_of, Steps, Leads}
use Rattle.farm_core.specs.Runs.{HasAccounts, EachCallCanBeMade, wish_of, EachSequenceIsARun, JournalsAreTheCalls}
use Rattle.farm_core.proofs.ViewLemmas.{IsKnown, moved, moved_own, member_other, set_other}
use Rattle.farm_core.proofs.SharingLemmas.{counted}
use Rattle.farm_core.proofs.SeatLemmas.{named, range_length}
use Rattle.farm_core.proofs.CountLemmas.{step_counted}

-- ---- the world after a call

tagged : ℕ → List JobData → List Row
tagged t jobs = map (λ (job : JobData). record { tenant = t; job = job }) jobs

rows_with : ℕ → List JobData → List Row → List Row
rows_with t jobs rows = filter (λ (row : Row). not (row.tenant == t)) rows ++ tagged t jobs

tagged_own : (t : ℕ) (jobs : List JobData) → jobs_of t (tagged t jobs) ≡ jobs
unfolding tagged
tagged_own t [] = refl
tagged_own t (job ∷ jobs) = grind (arith, nat_tests, tagged_own t jobs)

tagged_other : (u t : ℕ) (jobs : List JobData) → u ≢ t → jobs_of u (tagged t jobs) ≡ []
unfolding tagged
tagged_other u t [] differ = refl
tagged_other u t (job ∷ jobs) differ = grind (arith, nat_tests, tagged_other u t jobs differ)

own_rows : (t : ℕ) (jobs : List JobData) (rows : List Row) → jobs_of t (rows_with t jobs rows) ≡ jobs
unfolding rows_with
own_rows t jobs [] = tagged_own t jobs
own_rows t jobs (row ∷ rows) = grind (arith, nat_tests, own_rows t jobs rows)

other_rows : (u t : ℕ) (jobs : List JobData) (rows : List Row) → u ≢ t → jobs_of u (rows_with t jobs rows) ≡ jobs_of u rows
unfolding rows_with
other_rows u t jobs [] differ = tagged_other u t jobs differ
other_rows u t jobs (row ∷ rows) differ = grind (arith, nat_tests, other_rows u t jobs rows differ)

entries_count : (t : ℕ) (event : Event) (answer : Answer) → length (entry_of t event answer) ≡ cond (is_noted answer) 1 0
entries_count t event answer = count (is_noted answer) where
  count : (b : Bool) → length (cond {A = List Entry} b (record { tenant = t; event = event } ∷ []) []) ≡ cond b 1 0
  count true = refl
  count false = refl

account_after : Tenant → Account
account_after t = record { book = record (book_of.opened 0) { spent = t.spent }; next = t.next; used = t.used }

pub made : World → ℕ → Event → World
made w t e =
    let s : Step = step (view t w) e in
    moved w t (record { rows = rows_with t s.after.jobs w.rows; waiting = w.waiting }) (account_after s.after) (entry_of t e s.answer)

tenant_is : (a before : Tenant) (used : ℕ) (jobs : List JobData) → a.terms ≡ before.terms → a.granted ≡ before.granted → a.beside ≡ before.beside → used ≡ a.used → jobs ≡ a.jobs
    → record before { spent = a.spent; next = a.next; used = used; jobs = jobs } ≡ a
tenant_is a before used jobs p q r s t = rw (← p, ← q, ← r, s, t) refl

known_in : (w : World) (t : ℕ) → HasAccounts w → t < length w.config.tenants → IsKnown w t
known_in w t has l =
    let counted = counted (purse_names w.config.tenants) t (named w.config.tenants t l) in
    record { known = l; numbered = omega (arith, has.0); booked = omega (arith, has.1, counted) }

used_in : (u : ℕ) (v : World) → (view u v).used ≡ length (entries_of u v.journal)
unfolding view member
used_in u v = refl

pub each_step_can_be_made : (w : World) (t : ℕ) (e : Event) → IsKnown w t → Steps w t e (step (view t w) e).answer (made w t e)
unfolding made account_after
each_step_can_be_made w t e known =
    let s : Step = step (view t w) e in
    let count = step_counted (view t w) e in
    let rows : List Row = rows_with t s.after.jobs w.rows in
    let all : TableData = record { rows = rows; waiting = w.waiting } in
    let jobs = own_rows t s.after.jobs w.rows in
    let others : (u : ℕ) → u ≢ t → jobs_of u rows ≡ jobs_of u w.rows = λ u differ. other_rows u t s.after.jobs w.rows differ in
    let used : s.after.used ≡ length (entries_of t w.journal) + length (entry_of t e s.answer) =
    count.used ∙ ap (λ n. n + cond (is_noted s.answer) 1 0) (used_in t w) ∙ ap (λ n. length (entries_of t w.journal) + n) (sym (entries_count t e s.answer)) in
    record {
      known = known.known;
      answer_is = refl;
      own = moved_own w t all (account_after s.after) e s.answer known others
          ∙ tenant_is s.after (view t w) (length (entries_of t w.journal) + length (entry_of t e s.answer)) (jobs_of t rows) count.terms count.granted count.beside (sym used) jobs;
      others = λ u differ. member_other w u t all (account_after s.after) e s.answer differ (others u differ);
      purses = λ q differ. ap (λ (b : BookData). b.spent) (set_other w.books q (purse_in w.config t) (account_after s.after).book no_book differ);
      journal = refl;
      config = refl;
    }

-- ---- runs

made_accounts : (w : World) (t : ℕ) (e : Event) → HasAccounts w → HasAccounts (made w t e)
unfolding made
made_accounts w t e has =
    let s : Step = step (view t w) e in
    let after = account_after s.after in
    let numbers : Numbers = record { next = after.next; used = after.used } in
    (length-set w.numbers t numbers ∙ has.0, length-set w.books (purse_in w.config t) after.book ∙ has.1)

pub each_call_can_be_made : EachCallCanBeMade
each_call_can_be_made w has t known e = (made w t e, each_step_can_be_made w t e (known_in w t has known), made_accounts w t e has)

runs_from : (w : World) → HasAccounts w → (wanted : List (ℕ × Event)) → All (λ (a : ℕ × Event). a.0 < length w.config.tenants) wanted
    → (calls : List Call) × (new : World) × Leads w calls new × (map wish_of calls ≡ wanted)
unfolding made
runs_from w has [] known = ([], w, refl, refl)
runs_from w has ((t, e) ∷ wanted) known =
    let steps = each_step_can_be_made w t e (known_in w t has (known 0 (t, e) (omega arith))) in
    let rest = runs_from (made w t e) (made_accounts w t e has) wanted (λ k d l. known (suc k) d (omega (arith, l))) in
    let c : Call = record { tenant = t; event = e; answer = (step (view t w) e).answer } in
    (c ∷ rest.0, rest.1, (made w t e, steps, rest.2), ap (λ (more : List (ℕ × Event)). (t, e) ∷ more) rest.3)

opened_accounts : (config : ConfigData) → HasAccounts (opened config)
unfolding opened
opened_accounts config = (
  length-map config.tenants (λ (line : TenantLine). new_numbers),
  length-map (range_with_len 0 (purses_in config)) (λ p. book_of.opened (granted_by (member_lines config.tenants p))) ∙ range_length 0 (purses_in config),
)

pub each_sequence_is_a_run : EachSequenceIsARun
unfolding opened
each_sequence_is_a_run config wanted known = runs_from (opened config) (opened_accounts config) wanted known

journal_led : (old new : World) (calls : List Call) → Leads old calls new → new.journal ≡ old.journal ++ flat_map (λ (c : Call). entry_of c.tenant c.event c.answer) calls
journal_led old new [] run = ap (λ (w : World). w.journal) run ∙ sym (append-nil old.journal)
journal_led old new (c ∷ calls) run =
    let later : List Entry = flat_map (λ (d : Call). entry_of d.tenant d.event d.answer) calls in
    journal_led run.0 new calls run.2 ∙ ap (λ (j : List Entry). j ++ later) run.1.journal ∙ append_assoc old.journal (entry_of c.tenant c.event c.answer) later

pub journals_are_the_calls : JournalsAreTheCalls
unfolding opened
journals_are_the_calls config calls w run = journal_led (opened config) w calls run
