-- What a change of the world is to each tenant.
use Rattle.std.proofs.Common.{◌≡◌, ◌≢◌, ℕ, zero, suc, ◌+◌, ◌<◌, Bool, true, false, cond, List, [], ◌∷◌, ◌++◌, length, get_or, set, refl, sym, ap, ◌∙◌, arith, length-append, map}
use Rattle.std.proofs.lemmas.Bool.Decides.{nat_tests}
use Rattle.std.proofs.lemmas.Grind.{common_steps}
use Rattle.std.proofs.lemmas.List.Elements.{filter-append}
use Rattle.job_table.specs.Table.{Row, JobData, TableData, find_row, put_row, drop_row, jobs_of}
use Rattle.farm_core.specs.declared.entry.Entry.{Entry}
use Rattle.farm_core.specs.declared.entry.Event.{Event}
use Rattle.tenant_book.specs.Book.{BookData}
use Rattle.farm_core.specs.declared.account.Numbers.{Numbers}
use Rattle.farm_core.specs.Purses.{members_of}
use Rattle.farm_core.specs.Config.{purse_names, member_lines, granted_by}
use Rattle.farm_core.specs.Tenant.{Tenant, Member, terms_of, held_beside, find_job, put_job, drop_job}
use Rattle.farm_core.specs.Step.{Answer, step}
use Rattle.farm_core.specs.declared.account.Account.{Account}
use Rattle.farm_core.specs.World.{World, new_numbers, no_book, terms_in, purse_in, place_in, spent_in, member, purse, view, entries_of, is_noted, entry_of, KeepsOrder, Follows}
use Rattle.farm_core.proofs.SeatLemmas.{named, members_put, beside_set}

-- a tenant's job is found among its own
pub found_own : (t s : ℕ) (rows : List Row) → find_job s (jobs_of t rows) ≡ find_row t s rows
found_own t s [] = refl
found_own t s (r ∷ rows) = grind (arith, nat_tests, found_own t s rows)

pub put_own : (t s : ℕ) (new : JobData) (rows : List Row) → jobs_of t (put_row t s new rows) ≡ put_job s new (jobs_of t rows)
put_own t s new [] = refl
put_own t s new (r ∷ rows) = grind (arith, nat_tests, put_own t s new rows)

pub put_other : (u t s : ℕ) (new : JobData) (rows : List Row) → u ≢ t → jobs_of u (put_row t s new rows) ≡ jobs_of u rows
put_other u t s new [] differ = refl
put_other u t s new (r ∷ rows) differ = grind (arith, nat_tests, put_other u t s new rows differ)

pub drop_own : (t s : ℕ) (rows : List Row) → jobs_of t (drop_row t s rows) ≡ drop_job s (jobs_of t rows)
drop_own t s [] = refl
drop_own t s (r ∷ rows) = grind (arith, nat_tests, drop_own t s rows)

pub drop_other : (u t s : ℕ) (rows : List Row) → u ≢ t → jobs_of u (drop_row t s rows) ≡ jobs_of u rows
drop_other u t s [] differ = refl
drop_other u t s (r ∷ rows) differ = grind (arith, nat_tests, drop_other u t s rows differ)

pub own_entry : (t : ℕ) (event : Event) (noted : Bool) (journal : List Entry) → let es : List Entry = cond {A = List Entry} noted (record { tenant = t; event = event } ∷ []) [] in
    length (entries_of t (journal ++ es)) ≡ length (entries_of t journal) + length es
own_entry t event true journal = grind (arith, nat_tests, filter-append, length-append)
own_entry t event false journal = grind (arith, nat_tests, filter-append, length-append)

pub other_entry : (u t : ℕ) (event : Event) (noted : Bool) (journal : List Entry) → u ≢ t → let es : List Entry = cond {A = List Entry} noted (record { tenant = t; event = event } ∷ []) [] in
    entries_of u (journal ++ es) ≡ entries_of u journal
other_entry u t event true journal differ = grind (arith, nat_tests, common_steps, filter-append)
other_entry u t event false journal differ = grind (arith, nat_tests, common_steps, filter-append)

pub set_own : {A : Type 0} (xs : List A) (t : ℕ) (x d : A) → t < length xs → get_or (set xs t x) t d ≡ x
set_own [] t x d l = absurd (omega arith)
set_own (y ∷ xs) zero x d l = refl
set_own (y ∷ xs) (suc t) x d l = set_own xs t x d (omega arith)

pub set_other : {A : Type 0} (xs : List A) (u t : ℕ) (x d : A) → u ≢ t → get_or (set xs t x) u d ≡ get_or xs u d
set_other [] u t x d differ = refl
set_other (y ∷ xs) zero zero x d differ = absurd (differ refl)
set_other (y ∷ xs) zero (suc t) x d differ = refl
set_other (y ∷ xs) (suc u) zero x d differ = refl
set_other (y ∷ xs) (suc u) (suc t) x d differ = set_other xs u t x d (λ e. differ (ap suc e))

-- another table, another account of tenant t, and these entries at the end of the journal
abbrev pub moved : World → ℕ → TableData → Account → List Entry → World
moved w t all account entries =
    record w {
      rows = all.rows;
      waiting = all.waiting;
      journal = w.journal ++ entries;
      books = set w.books (purse_in w.config t) account.book;
      numbers = set w.numbers t (record { next = account.next; used = account.used });
    }

member_own : (w : World) (t : ℕ) (all : TableData) (account : Account) (event : Event) (answer : Answer) → t < length w.numbers
    → member t (moved w t all account (entry_of t event answer))
    ≡ record { terms = terms_of (terms_in w.config t); next = account.next; used = length (entries_of t w.journal) + length (entry_of t event answer); jobs = jobs_of t all.rows }
unfolding member
member_own w t all account event answer l =
    let numbers : Numbers = record { next = account.next; used = account.used } in
    let numbers_are = set_own w.numbers t numbers new_numbers l in
    let used_is = own_entry t event (is_noted answer) w.journal in
    rw (numbers_are, used_is) refl

pub member_other : (w : World) (u t : ℕ) (all : TableData) (account : Account) (event : Event) (answer : Answer) → u ≢ t → jobs_of u all.rows ≡ jobs_of u w.rows
    → member u (moved w t all account (entry_of t event answer)) ≡ member u w
unfolding member
member_other w u t all account event answer differ same =
    let numbers : Numbers = record { next = account.next; used = account.used } in
    let numbers_are = set_other w.numbers u t numbers new_numbers differ in
    let used_is = other_entry u t event (is_noted answer) w.journal differ in
    rw (numbers_are, used_is, same) refl

-- there are numbers for the tenant, and a ledger for its purse
pub record IsKnown (w : World) (t : ℕ) : Type 0 where
  pub known : t < length w.config.tenants
  pub numbered : t < length w.numbers
  pub booked : purse_in w.config t < length w.books

-- what tenant t sees after a move of its own
pub moved_own : (w : World) (t : ℕ) (all : TableData) (account : Account) (event : Event) (answer : Answer) → IsKnown w t → ((u : ℕ) → u ≢ t → jobs_of u all.rows ≡ jobs_of u w.rows)
    → view t (moved w t all account (entry_of t event answer))
    ≡ record (view t w) { spent = account.book.spent; next = account.next; used = length (entries_of t w.journal) + length (entry_of t event answer); jobs = jobs_of t all.rows }
unfolding view purse member
moved_own w t all account event answer it others =
    let names = purse_names w.config.tenants in
    let place = place_in w.config t in
    let p = purse_in w.config t in
    let new : World = moved w t all account (entry_of t event answer) in
    let ms : List Member = map (λ u. member u w) (members_of names p) in
    let own : Member = record { terms = terms_of (terms_in w.config t); next = account.next; used = length (entries_of t w.journal) + length (entry_of t event answer); jobs = jobs_of t all.rows } in
    let seen : ℕ → ℕ → Member → Tenant = λ spent beside m. record { terms = m.terms; granted = granted_by (member_lines w.config.tenants p); spent = spent; beside = beside; next = m.next; used = m.used; jobs = m.jobs } in
    let spent_is : spent_in p new ≡ account.book.spent = ap (λ (b : BookData). b.spent) (set_own w.books p account.book no_book it.booked) in
    let members : map (λ u. member u new) (members_of names p) ≡ set ms place (member t new) =
    members_put names (λ u. member u w) (λ u. member u new) t (named w.config.tenants t it.known) (λ u ne. member_other w u t all account event answer ne (others u ne)) in
    let beside_is : held_beside place (map (λ u. member u new) (members_of names p)) ≡ held_beside place ms = ap (held_beside place) members ∙ beside_set place ms (member t new) in
    ap (λ n. seen n (held_beside place (map (λ u. member u new) (members_of names p))) (member t new)) spent_is
    ∙ ap (λ n. seen account.book.spent n (member t new)) beside_is
    ∙ ap (seen account.book.spent (held_beside place ms)) (member_own w t all account event answer it.numbered)

-- a call follows where its answer and what its tenant sees are those of the step
pub follows_from : (w : World) (t : ℕ) (all : TableData) (account : Account) (event : Event) (answer : Answer) → IsKnown w t
    → answer ≡ (step (view t w) event).answer
    → (step (view t w) event).after
    ≡ record (view t w) { spent = account.book.spent; next = account.next; used = length (entries_of t w.journal) + length (entry_of t event answer); jobs = jobs_of t all.rows }
    → ((u : ℕ) → u ≢ t → jobs_of u all.rows ≡ jobs_of u w.rows)
    → KeepsOrder t w.waiting all.waiting
    → Follows w t event answer (moved w t all account (entry_of t event answer))
follows_from w t all account event answer it told after others order = record {
  known = it.known;
  answer_is = told;
  own = moved_own w t all account event answer it others ∙ sym after;
  others = λ u differ. member_other w u t all account event answer differ (others u differ);
  purses = λ q differ. ap (λ (b : BookData). b.spent) (set_other w.books q (purse_in w.config t) account.book no_book differ);
  order = order;
  journal = refl;
  config = refl;
}
