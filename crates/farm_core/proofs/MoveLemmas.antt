-- A call that moves the world, and what it keeps.
use Rattle.std.proofs.Common.{◌≡◌, ◌≢◌, ℕ, zero, suc, ◌+◌, ◌<◌, ◌≤◌, true, false, List, [], ◌∷◌, ◌++◌, length, get_or, set, refl, sym, ap, ◌∙◌, subst, arith, inl, ⊎_elim, length-append, Some}
use Rattle.std.proofs.lemmas.Bool.{cases_eq, cond-true}
use Rattle.job_table.specs.Table.{TableData, jobs_of}
use Rattle.farm_core.specs.declared.entry.Entry.{Entry}
use Rattle.farm_core.specs.declared.entry.Event.{Event}
use Rattle.farm_core.specs.declared.account.Account.{Account}
use Rattle.farm_core.specs.declared.reply.Reply.{Reply}
use Rattle.std.specs.Prelude.{slice_get}
use Rattle.tenant_book.specs.Book.{BookData}
use Rattle.farm_core.specs.declared.account.Numbers.{Numbers}
use Rattle.farm_core.specs.Config.{ConfigData, purse_names}
use Rattle.farm_core.specs.declared.reply.Reply.TheVariants as reply
use Rattle.farm_core.specs.Tenant.{Tenant, Member, book, free, kept}
use Rattle.farm_core.specs.Step.{Answer, Replied, Effect, Nothing, done, decided, step}
use Rattle.farm_core.specs.World.{World, Call, Leads, Run, Steps, new_numbers, no_book, opened, purse_in, account_of, member, view, entries_of, is_noted, entry_of, KeepsOrder, Follows}
use Rattle.farm_core.specs.Truth.{IsPlanned, ArePlanned}
use Rattle.farm_core.specs.Farm.{IsAccount, IsFarm, IsReached, AreFrom, AreOf, owed, IsReply}
use Rattle.farm_core.proofs.ViewLemmas.{IsKnown, moved, set_own, set_other, follows_from}
use Rattle.farm_core.proofs.SharingLemmas.{counted}
use Rattle.farm_core.proofs.SeatLemmas.{named, steps_of, one_ledger, view_stays}
use Rattle.farm_core.proofs.ReplayLemmas.{no_more, replayed_on}

-- what tenant t is after the call, if its account and the table are these
abbrev pub moved_view : World → ℕ → TableData → Account → Tenant
moved_view w t all account = record (view t w) { spent = account.book.spent; next = account.next; used = length (entries_of t w.journal) + 1; jobs = jobs_of t all.rows }

-- a call that leaves an entry, and then this table and this account; of the entries that are kept for gives at most one is free again
pub record IsMove (w : World) (t : ℕ) (all : TableData) (account : Account) (event : Event) (answer : Answer) : Type 0 where
  pub known : IsKnown w t
  pub planned : IsPlanned event
  pub told : answer ≡ (step (view t w) event).answer
  pub after : (step (view t w) event).after ≡ moved_view w t all account
  pub noted : is_noted answer ≡ true
  pub line_after : IsAccount (moved_view w t all account) account
  pub kept_less : kept (view t w) ≤ kept (moved_view w t all account) + 1
  pub others : (u : ℕ) → u ≢ t → jobs_of u all.rows ≡ jobs_of u w.rows
  pub order : KeepsOrder t w.waiting all.waiting
  pub whose : AreOf (length w.numbers) all.rows
  pub stands : AreFrom 0 all.rows

abbrev pub one_entry : ℕ → Event → List Entry
one_entry t event = record { tenant = t; event = event } ∷ []

entry_is : (t : ℕ) (event : Event) (answer : Answer) → is_noted answer ≡ true → entry_of t event answer ≡ one_entry t event
entry_is t event answer told = cond-true (is_noted answer) (one_entry t event) [] told

pub move_follows : (w : World) (t : ℕ) (all : TableData) (account : Account) (event : Event) (answer : Answer) → IsMove w t all account event answer
    → Follows w t event answer (moved w t all account (one_entry t event))
move_follows w t all account event answer move =
    let one = entry_is t event answer move.noted in
    let count : length (entry_of t event answer) ≡ 1 = ap {B = ℕ} length one in
    subst (λ (es : List Entry). Follows w t event answer (moved w t all account es)) one
    (follows_from w t all account event answer move.known move.told
    (move.after ∙ ap (λ n. let it : Tenant = record (view t w) { spent = account.book.spent; next = account.next; used = length (entries_of t w.journal) + n; jobs = jobs_of t all.rows } in it) (sym count))
    move.others move.order)

set_length : {A : Type 0} (xs : List A) (t : ℕ) (x : A) → length (set xs t x) ≡ length xs
set_length [] t x = refl
set_length (y ∷ xs) zero x = refl
set_length (y ∷ xs) (suc t) x = omega (arith, set_length xs t x)

-- one call more at the end of a run
leads_more : (old mid new : World) (calls : List Call) (c : Call) → Leads old calls mid → Steps mid c.tenant c.event c.answer new → Leads old (calls ++ c ∷ []) new
leads_more old mid new [] c run h = (new, subst (λ (w : World). Steps w c.tenant c.event c.answer new) run h, refl)
leads_more old mid new (d ∷ calls) c run h = (run.0, run.1, leads_more run.0 mid new calls c run.2 h)

-- one call more among these
planned_more : (calls : List Call) (c : Call) → ArePlanned calls → IsPlanned c.event → ArePlanned (calls ++ c ∷ [])
planned_more calls c all one d among = by calls all among.0 among.1
  where
    by : (cs : List Call) → ArePlanned cs → (k : ℕ) → slice_get (cs ++ c ∷ []) k ≡ Some d → IsPlanned d.event
    by [] every zero there = let same : c ≡ d = cc in subst (λ (x : Call). IsPlanned x.event) same one
    by [] every (suc k) there = absurd (cc)
    by (x ∷ cs) every zero there = every d (0, there)
    by (x ∷ cs) every (suc k) there = by cs (λ e in_rest. every e (suc in_rest.0, in_rest.1)) k there

reached_on : (w new : World) (t : ℕ) (event : Event) (answer : Answer) → IsReached w → IsPlanned event → Follows w t event answer new → IsReached new
reached_on w new t event answer it planned h =
    let c : Call = record { tenant = t; event = event; answer = answer } in
    record {
      calls = it.calls ++ c ∷ [];
      run = subst (λ (config : ConfigData). Run config (it.calls ++ c ∷ []) new) (sym h.config)
          (leads_more (opened w.config) w new it.calls c it.run (steps_of w new t event answer h));
      planned = planned_more it.calls c it.planned planned;
    }

-- what the tenants' accounts tell after a move
account_own : (w : World) (t : ℕ) (all : TableData) (account : Account) (entries : List Entry) → IsKnown w t → account_of (moved w t all account entries) t ≡ account
account_own w t all account entries it =
    let numbers : Numbers = record { next = account.next; used = account.used } in
    let numbers_are = set_own w.numbers t numbers new_numbers it.numbered in
    let book_is = set_own w.books (purse_in w.config t) account.book no_book it.booked in
    rw (numbers_are, book_is) refl

account_mate : (w : World) (u t : ℕ) (all : TableData) (account : Account) (entries : List Entry) → IsKnown w t → u ≢ t → purse_in w.config u ≡ purse_in w.config t
    → account_of (moved w t all account entries) u ≡ record (account_of w u) { book = account.book }
account_mate w u t all account entries it differ same =
    let numbers : Numbers = record { next = account.next; used = account.used } in
    let numbers_are = set_other w.numbers u t numbers new_numbers differ in
    let book_is = ap (λ p. get_or (set w.books (purse_in w.config t) account.book) p no_book) same ∙ set_own w.books (purse_in w.config t) account.book no_book it.booked in
    rw (numbers_are, book_is) refl

account_other : (w : World) (u t : ℕ) (all : TableData) (account : Account) (entries : List Entry) → purse_in w.config u ≢ purse_in w.config t
    → account_of (moved w t all account entries) u ≡ account_of w u
account_other w u t all account entries differ =
    let numbers : Numbers = record { next = account.next; used = account.used } in
    let numbers_are = set_other w.numbers u t numbers new_numbers (λ e. differ (ap (purse_in w.config) e)) in
    let book_is = set_other w.books (purse_in w.config u) (purse_in w.config t) account.book no_book differ in
    rw (numbers_are, book_is) refl

-- each tenant's account tells its part after a move of tenant t
each_account : (w : World) (t : ℕ) (all : TableData) (account : Account) (event : Event) (answer : Answer) (old : ℕ) → IsFarm w old → IsMove w t all account event answer
    → (u : ℕ) → u < length w.config.tenants → IsAccount (view u (moved w t all account (one_entry t event))) (account_of (moved w t all account (one_entry t event)) u)
unfolding view
each_account w t all account event answer old farm move u known =
    let new : World = moved w t all account (one_entry t event) in
    let follows = move_follows w t all account event answer move in
    let steps = steps_of w new t event answer follows in
    let own : IsAccount (view t new) account = subst (λ (v : Tenant). IsAccount v account) (sym (follows.own ∙ move.after)) move.line_after in
    ⊎_elim
    (λ (same : u ≡ t). subst (λ v. IsAccount (view v new) (account_of new v)) (sym same) (subst (IsAccount (view t new)) (sym (account_own w t all account (one_entry t event) move.known)) own))
    (λ (ne : u ≡ t → ⊥).
    let before = farm.each u (omega (arith, farm.count)) in
    let m : member u new ≡ member u w = follows.others u ne in
    ⊎_elim
    (λ (mates : purse_in w.config u ≡ purse_in w.config t).
    subst (IsAccount (view u new)) (sym (account_mate w u t all account (one_entry t event) move.known ne mates))
    (record {
      book = own.book ∙ sym (one_ledger t u new move.known.known known mates);
      next = before.next ∙ sym (ap (λ (x : Member). x.next) m);
      used = before.used ∙ sym (ap (λ (x : Member). x.used) m);
    }))
    (λ (apart : purse_in w.config u ≡ purse_in w.config t → ⊥).
    subst (IsAccount (view u new)) (sym (account_other w u t all account (one_entry t event) apart))
    (subst (λ (v : Tenant). IsAccount v (account_of w u)) (sym (view_stays w new t event answer steps u apart)) before))
    (cases_eq (purse_in w.config u) (purse_in w.config t)))
    (cases_eq u t)

pub move_farm : (w : World) (t : ℕ) (all : TableData) (account : Account) (event : Event) (answer : Answer) (old new : ℕ) → IsFarm w old → IsMove w t all account event answer
    → length w.journal + 1 + owed all.rows ≤ new → IsFarm (moved w t all account (one_entry t event)) new
move_farm w t all account event answer old new farm move room =
    let follows = move_follows w t all account event answer move in
    let after : World = moved w t all account (one_entry t event) in
    let numbers : Numbers = record { next = account.next; used = account.used } in
    let count : length (set w.numbers t numbers) ≡ length w.numbers = set_length w.numbers t numbers in
    record {
      count = count ∙ farm.count;
      ledgers = set_length w.books (purse_in w.config t) account.book ∙ farm.ledgers;
      each = λ u l. each_account w t all account event answer old farm move u (omega (arith, count, farm.count));
      room = omega (arith, room, length-append w.journal (one_entry t event));
      replayed = replayed_on w after t event answer farm.replayed follows;
      reached = reached_on w after t event answer farm.reached move.planned follows;
      whose = subst (λ n. AreOf n all.rows) (sym count) move.whose;
      order = move.stands;
      config = farm.config;
    }

pub known_in : (w : World) (t capacity : ℕ) → IsFarm w capacity → t < length w.config.tenants → IsKnown w t
known_in w t capacity farm l =
    let there = counted (purse_names w.config.tenants) t (named w.config.tenants t l) in
    record { known = l; numbered = omega (arith, farm.count); booked = omega (arith, farm.ledgers, there) }

-- the account of a tenant in the world
pub account_in : (w : World) (t capacity : ℕ) (account : Account) → IsFarm w capacity → t < length w.config.tenants → account ≡ account_of w t → IsAccount (view t w) account
account_in w t capacity account farm l is = rw is (farm.each t (omega (arith, farm.count)))

-- an answer is never that there is no memory
pub reply_is : (w : World) (t : ℕ) (event : Event) (answer : Reply) (new : World) → is_noted (Replied answer) ≡ true → Follows w t event (Replied answer) new → IsReply w t event answer new
reply_is w t event (reply.Job s) new told h = h
reply_is w t event (reply.Line line) new told h = h
reply_is w t event (reply.Ran ran line) new told h = h
reply_is w t event (reply.Best s schedule best verdict) new told h = h
reply_is w t event (reply.Forgotten s) new told h = h
reply_is w t event (reply.Ledger book) new told h = h
reply_is w t event reply.NoRoom new told h = absurd (cc)
reply_is w t event reply.NoUnknown new told h = h
reply_is w t event reply.NoBusy new told h = h
reply_is w t event reply.NoOver new told h = h
reply_is w t event reply.NoAmount new told h = h
reply_is w t event reply.NoJobs new told h = h
reply_is w t event (reply.NoShort free) new told h = h
reply_is w t event reply.NoMemory new told h = absurd (cc)

-- a call that changes nothing and leaves no entry
pub stays_follows : (w : World) (t : ℕ) (event : Event) (answer : Answer) → t < length w.config.tenants → decided (view t w) event ≡ Nothing answer → is_noted answer ≡ false → Follows w t event answer w
stays_follows w t event answer known decides told = record {
  known = known;
  answer_is = sym (ap (λ (f : Effect). (done (view t w) f).answer) decides);
  own = sym (ap (λ (f : Effect). (done (view t w) f).after) decides);
  others = λ u differ. refl;
  purses = λ q differ. refl;
  order = inl refl;
  journal = rw told (no_more w.journal);
  config = refl;
}

-- the world after a table, an account and an entry were written
pub moved_is : (w : World) (config : ConfigData) (jobs new_jobs : TableData) (journal new_journal : List Entry) (books after_books : List BookData) (numbers after_numbers : List Numbers)
    (t purse : ℕ) (new : TableData) (account : Account) (event : Event)
    → (let v : World = record { config = config; rows = jobs.rows; waiting = jobs.waiting; journal = journal; books = books; numbers = numbers } in v) ≡ w
    → purse ≡ purse_in w.config t → new_jobs ≡ new → after_books ≡ set books purse account.book → after_numbers ≡ set numbers t (record { next = account.next; used = account.used })
    → new_journal ≡ journal ++ one_entry t event
    → (let v : World = record { config = config; rows = new_jobs.rows; waiting = new_jobs.waiting; journal = new_journal; books = after_books; numbers = after_numbers } in v) ≡ moved w t new account (one_entry t event)
moved_is w config jobs new_jobs journal new_journal books after_books numbers after_numbers t purse new account event whole purse_is jobs_are books_are numbers_are journal_is =
    let v : World = record { config = config; rows = jobs.rows; waiting = jobs.waiting; journal = journal; books = books; numbers = numbers } in
    let same : purse ≡ purse_in config t = purse_is ∙ ap (λ (x : World). purse_in x.config t) (sym whole) in
    let there : after_books ≡ set books (purse_in config t) account.book = books_are ∙ ap (λ n. set books n account.book) same in
    rw (jobs_are, there, numbers_are, journal_is) (ap (λ (x : World). moved x t new account (one_entry t event)) whole)

-- a call that was written down keeps the farm and follows
pub written : (w v : World) (t : ℕ) (all : TableData) (account : Account) (event : Event) (answer : Answer) (old new : ℕ) → IsFarm w old → IsMove w t all account event answer
    → v ≡ moved w t all account (one_entry t event) → length w.journal + 1 + owed all.rows ≤ new → IsFarm v new × Follows w t event answer v
written w v t all account event answer old new farm move is room = (
  subst (λ (x : World). IsFarm x new) (sym is) (move_farm w t all account event answer old new farm move room),
  subst (λ (x : World). Follows w t event answer x) (sym is) (move_follows w t all account event answer move),
)
