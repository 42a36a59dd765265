-- What a farm keeps, from the farm in which nothing has happened on.
use Rattle.std.proofs.Common.{ℕ, zero, suc, ◌-◌, ◌+◌, ◌≡◌, ◌∙◌, sym, ◌<◌, ◌≤◌, true, ◌&&◌, nat_le, cond, false, List, [], ◌∷◌, ◌++◌, length, map, filter, get_or, refl, ap, arith, ◌*◌, Bool}
use Rattle.std.specs.List.{list_all, range_with_len}
use Rattle.std.proofs.lemmas.Bool.{and_parts, leb-true}
use Rattle.std.proofs.lemmas.List.{length-map, map-append, get_or_default}
use Rattle.farm_core.proofs.PursesLemmas.{range_more}
use Rattle.tenant_book.specs.Book as ledger
use Rattle.tenant_book.specs.Book.{BookData}
use Rattle.job_table.specs.Table.{JobData, Row, is_out, jobs_of}
use Rattle.job_table.specs.declared.phase.Phase.{Phase}
use Rattle.job_table.specs.declared.phase.Phase.TheVariants.{Waiting, Out, Leaving, Dry, Closed, Cancelled}
use Rattle.farm_core.specs.declared.account.Account.{Account}
use Rattle.farm_core.specs.declared.config.TenantLine.{TenantLine}
use Rattle.farm_core.specs.Purses.{is_first, purses}
use Rattle.farm_core.specs.Config.{ConfigData, purse_names, no_terms, member_lines, granted_by, are_terms, are_distinct, are_purses, is_within, is_config}
use Rattle.farm_core.specs.Tenant.{new_member, newcomers, seated_at, held, free, book, ledger_of, kept}
use Rattle.farm_core.specs.World.{World, new_numbers, no_book, terms_in, purse_in, place_in, purses_in, account_of, member, purse, view, opened}
use Rattle.farm_core.specs.Farm.{IsAccount, IsFarm, purse_numbers, owed_in, owed}
use Rattle.farm_core.proofs.SharingLemmas.{counted, member_in}
use Rattle.farm_core.proofs.SeatLemmas.{named, range_length, ledger_is}
use Rattle.farm_core.proofs.AloneLemmas.{seen_opened}
use Rattle.farm_core.proofs.ReplayLemmas.{opened_replayed}
use Rattle.farm_core.proofs.RunningLemmas.{IsRunning, no_held, run_runs}

-- ---- the ledgers of the purses

pub book_is : (w : World) (p capacity : ℕ) (b : BookData) → IsFarm w capacity → p < purses_in w.config → get_or w.books p b ≡ ledger_of (purse p w)
book_is w p capacity b farm l =
    let it = member_in (purse_names w.config.tenants) p l in
    let t : ℕ = it.0 in
    let count = length-map w.config.tenants (λ (line : TenantLine). line.purse) in
    let known : t < length w.config.tenants = omega (arith, it.1.known, count) in
    let told = (farm.each t (omega (arith, farm.count))).book in
    get_or_default w.books p b no_book (omega (arith, l, farm.ledgers)) ∙ ap (λ q. get_or w.books q no_book) (sym it.1.purse) ∙ told ∙ ledger_is t w known ∙ ap (λ q. ledger_of (purse q w)) it.1.purse

-- ---- the numbers of the tenants' purses

purse_at : (f : ℕ → ℕ) (a n k d : ℕ) → k < n → get_or (map f (range_with_len a n)) k d ≡ f (a + k)
purse_at f a zero k d l = absurd (omega arith)
purse_at f a (suc n) zero d l = let at : a ≡ a + 0 = omega arith in ap f at
purse_at f a (suc n) (suc k) d l = let at : a + 1 + k ≡ a + suc k = omega arith in purse_at f (a + 1) n k d (omega arith) ∙ ap f at

pub purse_number : (config : ConfigData) (t d : ℕ) → t < length config.tenants → get_or (purse_numbers config) t d ≡ purse_in config t
purse_number config t d l =
    let at : 0 + t ≡ t = omega arith in
    purse_at (purse_in config) 0 (length config.tenants) t d l ∙ ap (purse_in config) at

pub purse_count : (config : ConfigData) → length (purse_numbers config) ≡ length config.tenants
purse_count config = length-map (range_with_len 0 (length config.tenants)) (purse_in config) ∙ range_length 0 (length config.tenants)

-- with one more
pub list_more : {A : Type 0} (f : ℕ → A) (n : ℕ) → map f (range_with_len 0 (n + 1)) ≡ map f (range_with_len 0 n) ++ f n ∷ []
list_more {A} f n =
    let at : 0 + n ≡ n = omega arith in
    ap (map f) (range_more 0 n) ∙ map-append f (range_with_len 0 n) ((0 + n) ∷ []) ∙ ap (λ k. map f (range_with_len 0 n) ++ f k ∷ []) at

-- a list of them has as many, and at each tenant its purse's
pub purses_are : (config : ConfigData) (numbers : List ℕ) (t d : ℕ) → numbers ≡ purse_numbers config → t < length config.tenants
    → (t < length numbers) × (get_or numbers t d ≡ purse_in config t)
purses_are config numbers t d is l =
    let count : length numbers ≡ length config.tenants = ap {B = ℕ} length is ∙ purse_count config in
    (omega arith, ap (λ (ns : List ℕ). get_or ns t d) is ∙ purse_number config t d l)

pub purse_known : (config : ConfigData) (t : ℕ) → t < length config.tenants → purse_in config t < purses_in config
purse_known config t l = counted (purse_names config.tenants) t (named config.tenants t l)

-- ---- the farm in which nothing has happened

books_at : (granted : ℕ → ℕ) (a n k : ℕ) (d : BookData) → k < n → get_or (map (λ p. ledger.opened (granted p)) (range_with_len a n)) k d ≡ ledger.opened (granted (a + k))
books_at granted a zero k d l = absurd (omega arith)
books_at granted a (suc n) zero d l = let at : a ≡ a + 0 = omega arith in ap (λ p. ledger.opened (granted p)) at
books_at granted a (suc n) (suc k) d l = let at : a + 1 + k ≡ a + suc k = omega arith in books_at granted (a + 1) n k d (omega arith) ∙ ap (λ p. ledger.opened (granted p)) at

numbers_at : (lines : List TenantLine) (t : ℕ) → get_or (map (λ (line : TenantLine). new_numbers) lines) t new_numbers ≡ new_numbers
numbers_at [] t = refl
numbers_at (line ∷ lines) zero = refl
numbers_at (line ∷ lines) (suc t) = numbers_at lines t

account_newcomer : (place : ℕ) (lines : List TenantLine) (line : TenantLine)
    → IsAccount (seated_at place (newcomers lines) (new_member line)) (record { book = ledger.opened (granted_by lines); next = 1; used = 0 })
unfolding newcomers book free held
account_newcomer place lines line =
    let none = no_held lines place in
    let rest : granted_by lines ≡ granted_by lines - 0 - 0 = omega arith in
    record {
      book = rw none (ap (λ n. let b : BookData = record { granted = granted_by lines; free = n; held = 0; spent = 0 } in b) rest);
      next = refl;
      used = refl;
    }

account_opened : (config : ConfigData) (t : ℕ) → t < length config.tenants → IsAccount (view t (opened config)) (account_of (opened config) t)
unfolding opened
account_opened config t l =
    let p = purse_in config t in
    let there = counted (purse_names config.tenants) t (named config.tenants t l) in
    let book_is = books_at (λ q. granted_by (member_lines config.tenants q)) 0 (purses_in config) p no_book there in
    let numbers_are = numbers_at config.tenants t in
    let at : 0 + p ≡ p = omega arith in
    rw (seen_opened t config, book_is, numbers_are, at) (account_newcomer (place_in config t) (member_lines config.tenants p) (terms_in config t))

pub farm_opened : (config : ConfigData) (capacity : ℕ) → is_config config ≡ true → IsFarm (opened config) capacity
unfolding opened
farm_opened config capacity is = record {
  count = length-map config.tenants (λ (line : TenantLine). new_numbers);
  ledgers = length-map (range_with_len 0 (purses_in config)) (λ p. ledger.opened (granted_by (member_lines config.tenants p))) ∙ range_length 0 (purses_in config);
  each = λ t l. let numbers = length-map config.tenants (λ (line : TenantLine). new_numbers) in account_opened config t (omega arith);
  room = omega arith;
  replayed = opened_replayed config;
  reached = record { calls = []; run = refl; planned = λ c among. absurd (cc) };
  whose = tt;
  order = tt;
  config = is;
}

pub entries_at : (lines : List TenantLine) (k : ℕ) (d : TenantLine) → list_all are_terms lines ≡ true → k < length lines → (get_or lines k d).entries ≤ 1000000
unfolding are_terms
entries_at [] k d h l = absurd (omega arith)
entries_at (line ∷ lines) zero d h l =
    let first = (and_parts (are_terms line) (list_all are_terms lines) h).0 in
    let last = (and_parts (nat_le line.quanta 1000000000000 && is_within 1 1000 line.jobs) (is_within 1 1000000 line.entries) first).1 in
    leb-true line.entries 1000000 (and_parts (nat_le 1 line.entries) (nat_le line.entries 1000000) last).1
entries_at (line ∷ lines) (suc k) d h l = entries_at lines k d (and_parts (are_terms line) (list_all are_terms lines) h).1 (omega arith)

-- what is read within a list does not depend on the default
pub same_read : {A : Type 0} (xs : List A) (k : ℕ) (a b : A) → k < length xs → get_or xs k a ≡ get_or xs k b
same_read [] k a b l = absurd (omega arith)
same_read (x ∷ xs) zero a b l = refl
same_read (x ∷ xs) (suc k) a b l = same_read xs k a b (omega arith)

pub running_in : (w : World) (t capacity : ℕ) → IsFarm w capacity → t < length w.config.tenants → IsRunning (view t w)
running_in w t capacity farm l = run_runs w.config farm.reached.calls w farm.reached.run t l

-- each of a configuration's lines keeps its limits, and no purse was granted more than 10^12
terms_held : (config : ConfigData) → is_config config ≡ true → (list_all are_terms config.tenants ≡ true) × (are_purses config.tenants ≡ true)
unfolding is_config
terms_held config is =
    let five = (and_parts (is_within 1 64 (length config.tenants) && list_all are_terms config.tenants && are_distinct config.tenants && are_purses config.tenants && is_within 1 16 config.workers) (is_within 1 1000000 config.slice) is).0 in
    let four = (and_parts (is_within 1 64 (length config.tenants) && list_all are_terms config.tenants && are_distinct config.tenants && are_purses config.tenants) (is_within 1 16 config.workers) five).0 in
    let parts = and_parts (is_within 1 64 (length config.tenants) && list_all are_terms config.tenants && are_distinct config.tenants) (are_purses config.tenants) four in
    let two = (and_parts (is_within 1 64 (length config.tenants) && list_all are_terms config.tenants) (are_distinct config.tenants) parts.0).0 in
    ((and_parts (is_within 1 64 (length config.tenants)) (list_all are_terms config.tenants) two).1, parts.1)

all_at : (test : ℕ → Bool) (a n k : ℕ) → list_all test (range_with_len a n) ≡ true → k < n → test (a + k) ≡ true
all_at test a zero k all l = absurd (omega arith)
all_at test a (suc n) zero all l = let at : a ≡ a + 0 = omega arith in ap test (sym at) ∙ (and_parts (test a) (list_all test (range_with_len (a + 1) n)) all).0
all_at test a (suc n) (suc k) all l =
    let at : a + 1 + k ≡ a + suc k = omega arith in
    ap test (sym at) ∙ all_at test (a + 1) n k (and_parts (test a) (list_all test (range_with_len (a + 1) n)) all).1 (omega arith)

-- no purse was granted more than 10^12
pub granted_within : (config : ConfigData) (p : ℕ) → is_config config ≡ true → p < purses_in config → granted_by (member_lines config.tenants p) ≤ 1000000000000
granted_within config p is l =
    let at : 0 + p ≡ p = omega arith in
    let held = all_at (λ q. nat_le (granted_by (member_lines config.tenants q)) 1000000000000) 0 (purses_in config) p (terms_held config is).1 l in
    leb-true (granted_by (member_lines config.tenants p)) 1000000000000 (ap (λ q. nat_le (granted_by (member_lines config.tenants q)) 1000000000000) (sym at) ∙ held)

filter_most : (test : ℕ → Bool) (a n : ℕ) → length (filter test (range_with_len a n)) ≤ n
filter_most test a zero = omega arith
filter_most test a (suc n) = by (filter_most test (a + 1) n) (test a)
  where
    by : length (filter test (range_with_len (a + 1) n)) ≤ n → (b : Bool) → length (cond b (a ∷ filter test (range_with_len (a + 1) n)) (filter test (range_with_len (a + 1) n))) ≤ suc n
    by rest true = omega arith
    by rest false = omega arith

pub few_purses : (config : ConfigData) → is_config config ≡ true → purses_in config ≤ 64
unfolding is_config purses
few_purses config is =
    let six = (and_parts (is_within 1 64 (length config.tenants) && list_all are_terms config.tenants && are_distinct config.tenants && are_purses config.tenants && is_within 1 16 config.workers) (is_within 1 1000000 config.slice) is).0 in
    let five = (and_parts (is_within 1 64 (length config.tenants) && list_all are_terms config.tenants && are_distinct config.tenants && are_purses config.tenants) (is_within 1 16 config.workers) six).0 in
    let four = (and_parts (is_within 1 64 (length config.tenants) && list_all are_terms config.tenants && are_distinct config.tenants) (are_purses config.tenants) five).0 in
    let three = (and_parts (is_within 1 64 (length config.tenants) && list_all are_terms config.tenants) (are_distinct config.tenants) four).0 in
    let two = (and_parts (is_within 1 64 (length config.tenants)) (list_all are_terms config.tenants) three).0 in
    let most = leb-true (length config.tenants) 64 (and_parts (nat_le 1 (length config.tenants)) (nat_le (length config.tenants) 64) two).1 in
    let names = length-map config.tenants (λ (line : TenantLine). line.purse) in
    omega (arith, filter_most (is_first (purse_names config.tenants)) 0 (length (purse_names config.tenants)), most, names)

pub granted_most : (w : World) (t : ℕ) → is_config w.config ≡ true → t < length w.config.tenants → (view t w).granted ≤ 1000000000000
unfolding view purse
granted_most w t is l = granted_within w.config (purse_in w.config t) is (purse_known w.config t l)

-- what a tenant's line, account and turns that are out tell of its part of the farm
pub record IsRead (w : World) (t : ℕ) (line : TenantLine) (account : Account) (out : ℕ) : Type 0 where
  pub entries : line.entries ≡ (view t w).terms.entries
  pub used : account.used ≡ (view t w).used
  pub out_is : out ≡ kept (view t w)
  pub within : account.used + out ≤ line.entries
  pub few : line.entries ≤ 1000000
  pub limited : (view t w).granted ≤ 1000000000000

pub read_of : (w : World) (t : ℕ) (capacity : ℕ) (line : TenantLine) (account : Account) (out : ℕ) → IsFarm w capacity → t < length w.config.tenants
    → line ≡ get_or w.config.tenants t line → account ≡ account_of w t → out ≡ length (filter (λ (job : JobData). is_out job.phase) (jobs_of t w.rows)) → IsRead w t line account out
unfolding view member kept
read_of w t capacity line account out farm l line_is account_is out_is =
    let terms = (terms_held w.config farm.config).0 in
    let it : IsAccount (view t w) account = rw account_is (farm.each t (omega (arith, farm.count))) in
    let entries : line.entries ≡ (view t w).terms.entries = ap (λ (x : TenantLine). x.entries) (line_is ∙ same_read w.config.tenants t line no_terms l) in
    record {
      entries = entries;
      used = it.used;
      out_is = out_is;
      within = omega (arith, it.used, (running_in w t capacity farm l).within, entries, out_is);
      few = omega (arith, entries_at w.config.tenants t line terms l, ap (λ (x : TenantLine). x.entries) line_is);
      limited = granted_most w t farm.config l;
    }

pub owed_in-most : (phase : Phase) → owed_in phase ≤ 2
owed_in-most Waiting = omega arith
owed_in-most (Out slice) = omega arith
owed_in-most (Leaving slice) = omega arith
owed_in-most Dry = omega arith
owed_in-most Closed = omega arith
owed_in-most Cancelled = omega arith

pub owed-most : (rows : List Row) → owed rows ≤ 2 * length rows
owed-most [] = omega arith
owed-most (row ∷ rows) = omega (arith, owed-most rows, owed_in-most row.job.phase)

-- a tenant has used no more entries than it may
pub used_most : (w : World) (t capacity : ℕ) → IsFarm w capacity → t < length w.config.tenants → (view t w).used ≤ 1000000
unfolding view member
used_most w t capacity farm l = omega (arith, (running_in w t capacity farm l).within, entries_at w.config.tenants t no_terms (terms_held w.config farm.config).0 l)
