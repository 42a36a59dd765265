-- The farm of all tenants, what one of them and what a purse sees of it, and whole runs.
use Rattle.std.specs.Prelude.{Bool, true, false, cond, ◌≡◌, ◌≢◌, ◌⊎◌, ℕ, ◌<◌, ◌==◌, List, [], ◌∷◌, ◌++◌, length, map, filter, get_or}
use Rattle.std.specs.List.{range_with_len}
use Rattle.tenant_book.specs.Book as ledger
use Rattle.tenant_book.specs.Book.{BookData}
use Rattle.job_table.specs.Table.{Row, TableData, find_row, jobs_of, does_wait, waiting_then}
use Rattle.farm_core.specs.declared.account.Account.{Account}
use Rattle.farm_core.specs.declared.account.Numbers.{Numbers}
use Rattle.farm_core.specs.declared.config.TenantLine.{TenantLine}
use Rattle.farm_core.specs.declared.entry.Entry.{Entry}
use Rattle.farm_core.specs.declared.entry.Event.{Event}
use Rattle.farm_core.specs.declared.reply.Reply.TheVariants as reply
use Rattle.farm_core.specs.Purses.{purse_of, purses, members_of, place_of}
use Rattle.farm_core.specs.Config.{ConfigData, purse_names, no_terms, member_lines, granted_by}
use Rattle.farm_core.specs.Tenant.{Tenant, Member, Purse, terms_of, newcomers, seated_at, seat, with_seat}
use Rattle.farm_core.specs.Step.{Answer, Replied, Sent, NoTurn, step}

-- a farm: the table of jobs, the queue of waiting jobs, the journal, a ledger for each purse, and
-- for each tenant the number of its next job and the entries that it has used
pub record World : Type 0 where
  pub config : ConfigData
  pub rows : List Row
  pub waiting : List (ℕ × ℕ)
  pub journal : List Entry
  pub books : List BookData
  pub numbers : List Numbers

-- all tenants' jobs, and which of them wait
abbrev pub table_of : World → TableData
table_of w = record { rows = w.rows; waiting = w.waiting }

abbrev pub new_numbers : Numbers
new_numbers = record { next = 1; used = 0 }

abbrev pub no_book : BookData
no_book = ledger.opened 0

abbrev pub terms_in : ConfigData → ℕ → TenantLine
terms_in config t = get_or config.tenants t no_terms

-- the number of a tenant's purse, its place among the members, and the number of purses
abbrev pub purse_in : ConfigData → ℕ → ℕ
purse_in config t = purse_of (purse_names config.tenants) t

abbrev pub place_in : ConfigData → ℕ → ℕ
place_in config t = place_of (purse_names config.tenants) t

abbrev pub purses_in : ConfigData → ℕ
purses_in config = purses (purse_names config.tenants)

-- a ledger for each purse that has spent nothing
abbrev pub opened_books : ConfigData → List BookData
opened_books config = map (λ p. ledger.opened (granted_by (member_lines config.tenants p))) (range_with_len 0 (purses_in config))

-- the farm in which nothing has happened
unfoldable pub opened : ConfigData → World
opened config = record {
  config = config;
  rows = [];
  waiting = [];
  journal = [];
  books = opened_books config;
  numbers = map (λ (line : TenantLine). new_numbers) config.tenants;
}

-- what is one tenant's of the journal
abbrev pub entries_of : ℕ → List Entry → List Entry
entries_of t journal = filter (λ entry. entry.tenant == t) journal

-- what is kept of a tenant beside its jobs: the ledger of its purse, and its own numbers
abbrev pub account_of : World → ℕ → Account
account_of w t =
    let numbers = get_or w.numbers t new_numbers in
    record { book = get_or w.books (purse_in w.config t) no_book; next = numbers.next; used = numbers.used }

-- what is one tenant's own of the world
unfoldable pub member : ℕ → World → Member
member t w =
    record {
      terms = terms_of (terms_in w.config t);
      next = (get_or w.numbers t new_numbers).next;
      used = length (entries_of t w.journal);
      jobs = jobs_of t w.rows;
    }

abbrev pub spent_in : ℕ → World → ℕ
spent_in p w = (get_or w.books p no_book).spent

-- one purse's part of the world,
unfoldable pub purse : ℕ → World → Purse
purse p w = record {
  granted = granted_by (member_lines w.config.tenants p);
  spent = spent_in p w;
  members = map (λ t. member t w) (members_of (purse_names w.config.tenants) p);
}

-- and one tenant's at its purse
unfoldable pub view : ℕ → World → Tenant
view t w = seated_at (place_in w.config t) (purse (purse_in w.config t) w) (member t w)

-- a call leaves an entry unless its answer is 'no room', 'no memory' or 'no turn'
abbrev pub is_noted : Answer → Bool
is_noted (Replied reply.NoRoom) = false
is_noted (Replied reply.NoMemory) = false
is_noted (Replied answer) = true
is_noted (Sent line) = true
is_noted NoTurn = false

abbrev pub entry_of : ℕ → Event → Answer → List Entry
entry_of t event answer = cond (is_noted answer) (record { tenant = t; event = event } ∷ []) []

-- one of tenant t is gone, and the others stand as they stood
pub record IsWithout (t : ℕ) (old new : List (ℕ × ℕ)) : Type 0 where
  pub seq : ℕ
  pub before : List (ℕ × ℕ)
  pub behind : List (ℕ × ℕ)
  pub was : old ≡ before ++ (t, seq) ∷ behind
  pub is : new ≡ before ++ behind

-- no job passes another: the queue is as before, one of tenant t came last, or one of tenant t is
-- gone
abbrev pub KeepsOrder : ℕ → List (ℕ × ℕ) → List (ℕ × ℕ) → Type 0
KeepsOrder t old new = (new ≡ old) ⊎ ((seq : ℕ) × (new ≡ old ++ (t, seq) ∷ [])) ⊎ IsWithout t old new

-- the queue after a change of this job alone: last if it begins to wait, gone if it waits no
-- longer; all others keep their places
abbrev pub KeepsTurns : World → ℕ → ℕ → World → Type 0
KeepsTurns old t s new = new.waiting ≡ waiting_then t s (does_wait (find_row t s old.rows)) (does_wait (find_row t s new.rows)) old.waiting

-- a call makes its tenant's step; other tenants' own parts, and what other purses have spent, do
-- not change
pub record Steps (old : World) (t : ℕ) (event : Event) (answer : Answer) (new : World) : Type 0 where
  pub known : t < length old.config.tenants
  pub answer_is : answer ≡ (step (view t old) event).answer
  pub own : view t new ≡ (step (view t old) event).after
  pub others : (u : ℕ) → u ≢ t → member u new ≡ member u old
  pub purses : (p : ℕ) → p ≢ purse_in old.config t → spent_in p new ≡ spent_in p old
  pub journal : new.journal ≡ old.journal ++ entry_of t event answer
  pub config : new.config ≡ old.config

-- this, and no waiting job passes another
pub record Follows (old : World) (t : ℕ) (event : Event) (answer : Answer) (new : World) : Type 0 where
  pub known : t < length old.config.tenants
  pub answer_is : answer ≡ (step (view t old) event).answer
  pub own : view t new ≡ (step (view t old) event).after
  pub others : (u : ℕ) → u ≢ t → member u new ≡ member u old
  pub purses : (p : ℕ) → p ≢ purse_in old.config t → spent_in p new ≡ spent_in p old
  pub order : KeepsOrder t old.waiting new.waiting
  pub journal : new.journal ≡ old.journal ++ entry_of t event answer
  pub config : new.config ≡ old.config

-- a call of a tenant, and its answer
pub record Call : Type 0 where
  pub tenant : ℕ
  pub event : Event
  pub answer : Answer

-- calls of all tenants, one after another, in whatever order the jobs then wait
abbrev pub Leads : World → List Call → World → Type 0
Leads old [] new = new ≡ old
Leads old (c ∷ calls) new = (mid : World) × Steps old c.tenant c.event c.answer mid × Leads mid calls new

-- a run: from the farm in which nothing has happened
abbrev pub Run : ConfigData → List Call → World → Type 0
Run config calls new = Leads (opened config) calls new

-- ---- one purse's calls

-- what a purse is asked for: the place of the member that asks, and what it asks for
pub record Asked : Type 0 where
  pub place : ℕ
  pub event : Event

-- the calls of a purse's members, in order, each by its member's place, and their answers
abbrev pub own_calls : ConfigData → ℕ → List Call → List Call
own_calls config p calls = filter (λ (c : Call). purse_in config c.tenant == p) calls

abbrev pub own_events : ConfigData → ℕ → List Call → List Asked
own_events config p calls = map (λ (c : Call). record { place = place_in config c.tenant; event = c.event }) (own_calls config p calls)

abbrev pub own_answers : ConfigData → ℕ → List Call → List Answer
own_answers config p calls = map (λ (c : Call). c.answer) (own_calls config p calls)

-- what a purse's members asked for, entry by entry
abbrev pub events_of : ConfigData → ℕ → List Entry → List Asked
events_of config p journal =
    map (λ (entry : Entry). record { place = place_in config entry.tenant; event = entry.event }) (filter (λ (entry : Entry). purse_in config entry.tenant == p) journal)

-- a purse alone: its members' answers and what it has at the end, if no one else used the farm
abbrev pub answers_alone : Purse → List Asked → List Answer
answers_alone p [] = []
answers_alone p (a ∷ asked) = (step (seat p a.place) a.event).answer ∷ answers_alone (with_seat p a.place (step (seat p a.place) a.event).after) asked

abbrev pub after_alone : Purse → List Asked → Purse
after_alone p [] = p
after_alone p (a ∷ asked) = after_alone (with_seat p a.place (step (seat p a.place) a.event).after) asked

abbrev pub opened_purse : ConfigData → ℕ → Purse
opened_purse config p = newcomers (member_lines config.tenants p)

-- each purse is where its own entries of the journal lead, from the opened farm
abbrev pub IsOfJournal : World → Type 0
IsOfJournal w = (p : ℕ) → purse p w ≡ after_alone (opened_purse w.config p) (events_of w.config p w.journal)
