-- What an effect does to the table and to the ledger, and how a call moves the world by it.
use Rattle.std.proofs.Common.{◌≡◌, ◌≢◌, ℕ, ◌+◌, ◌-◌, ◌<◌, ◌≤◌, true, false, Some, List, [], ◌∷◌, ◌++◌, length, inl, refl, sym, ap, ◌∙◌, subst, arith}
use Rattle.std.proofs.lemmas.Bool.{cond_both}
use Rattle.std.proofs.lemmas.Bool.Decides.{nat_tests}
use Rattle.tenant_book.specs.Book.{BookData}
use Rattle.job_table.specs.Table as table
use Rattle.job_table.specs.Table.{Row, JobData, TableData, is_row, is_waiting, find_row, put_row, drop_row, jobs_of, add_row, add_job, change_job}
use Rattle.farm_core.specs.declared.entry.Event.{Event}
use Rattle.farm_core.specs.declared.account.Account.{Account}
use Rattle.farm_core.specs.declared.reply.Reply.{Reply}
use Rattle.farm_core.specs.Tenant.{Tenant, book, held, held_by, free, kept, find_job, put_job, drop_job}
use Rattle.farm_core.specs.Step.{Answer, Effect, Nothing, Notes, Adds, Changes, Drops, done, decided}
use Rattle.farm_core.specs.World.{World, table_of, account_of, member, view, entries_of, is_noted, KeepsOrder}
use Rattle.farm_core.specs.Truth.{IsPlanned}
use Rattle.farm_core.specs.Farm.{IsAccount, IsFarm, AreFrom, AreOf}
use Rattle.farm_core.proofs.DecisionLemmas.{leaves_entry, entry_told}
use Rattle.farm_core.proofs.ViewLemmas.{found_own, put_own, put_other, drop_own, drop_other}
use Rattle.farm_core.proofs.MoveLemmas.{IsMove, moved_view, known_in, account_in}
use Rattle.farm_core.proofs.FarmLemmas.{running_in}
use Rattle.farm_core.proofs.NeedLemmas.{AreBelow, run_below}
use Rattle.farm_core.proofs.OrderLemmas.{put_from, drop_from, add_from, add_whose, add_own, add_other, without_order, then_order}
use Rattle.farm_core.proofs.RunningLemmas.{outs, held_put, held_drop, held_push, found_seq}

same_book : (g f h s g' f' h' s' : ℕ) → g ≡ g' → f ≡ f' → h ≡ h' → s ≡ s'
    → (let b : BookData = record { granted = g; free = f; held = h; spent = s } in b) ≡ record { granted = g'; free = f'; held = h'; spent = s' }
same_book g f h s g' f' h' s' a b c d = rw (a, b, c, d) refl

-- a tenant's own job of that number is the row's
pub own_job : (w : World) (t s : ℕ) (job : JobData) → find_row t s w.rows ≡ Some job → find_job s (view t w).jobs ≡ Some job
unfolding view member
own_job w t s job found = found_own t s w.rows ∙ found

-- every quantum of an account is in one place
pub whole_in : (w : World) (t capacity : ℕ) (account : Account) → IsFarm w capacity → t < length w.config.tenants → account ≡ account_of w t
    → account.book.granted ≡ account.book.free + account.book.held + account.book.spent
unfolding book free
whole_in w t capacity account farm l is =
    let b = (account_in w t capacity account farm l is).book in
    rw b (omega (arith, (running_in w t capacity farm l).covered))

put_whose : (n t s : ℕ) (new : JobData) (rows : List Row) → t < n → AreOf n rows → AreOf n (put_row t s new rows)
put_whose n t s new [] l all = tt
put_whose n t s new (row ∷ rows) l all =
    cond_both (is_row t s row) (record { tenant = t; job = new } ∷ rows) (row ∷ put_row t s new rows) (AreOf n) (λ _. (l, all.1)) (λ _. (all.0, put_whose n t s new rows l all.1))

drop_whose : (n t s : ℕ) (rows : List Row) → AreOf n rows → AreOf n (drop_row t s rows)
drop_whose n t s [] all = tt
drop_whose n t s (row ∷ rows) all =
    cond_both (is_row t s row) rows (row ∷ drop_row t s rows) (AreOf n) (λ _. all.1) (λ _. (all.0, drop_whose n t s rows all.1))

-- one job that changes, goes or comes is one turn less at most that is out
outs_put : (s : ℕ) (new : JobData) (jobs : List JobData) → outs jobs ≤ outs (put_job s new jobs) + 1
outs_put s new [] = omega arith
outs_put s new (job ∷ jobs) = grind (arith, nat_tests, outs_put s new jobs)

outs_drop : (s : ℕ) (jobs : List JobData) → outs jobs ≤ outs (drop_job s jobs) + 1
outs_drop s [] = omega arith
outs_drop s (job ∷ jobs) = grind (arith, nat_tests, outs_drop s jobs)

outs_push : (new : JobData) (jobs : List JobData) → outs jobs ≤ outs (jobs ++ new ∷ []) + 1
outs_push new [] = omega arith
outs_push new (job ∷ jobs) = grind (arith, nat_tests, outs_push new jobs)

-- ---- the table

-- the table after an effect; of the entries that are kept for gives at most one is free again
pub record IsTabled (w : World) (t : ℕ) (f : Effect) (all : TableData) : Type 0 where
  pub own : jobs_of t all.rows ≡ (done (view t w) f).after.jobs
  pub kept_less : outs (jobs_of t w.rows) ≤ outs (jobs_of t all.rows) + 1
  pub others : (u : ℕ) → u ≢ t → jobs_of u all.rows ≡ jobs_of u w.rows
  pub order : KeepsOrder t w.waiting all.waiting
  pub whose : AreOf (length w.numbers) all.rows
  pub stands : AreFrom 0 all.rows

pub noted_tabled : (w : World) (t capacity : ℕ) (answer : Reply) → IsFarm w capacity → IsTabled w t (Notes answer) (table_of w)
unfolding view member
noted_tabled w t capacity answer farm = record { own = refl; kept_less = omega arith; others = λ u differ. refl; order = inl refl; whose = farm.whose; stands = farm.order }

pub changed_tabled : (w : World) (t s capacity : ℕ) (job new : JobData) (ran : ℕ) (answer : Answer) → IsFarm w capacity → t < length w.config.tenants → new.seq ≡ s
    → IsTabled w t (Changes new ran answer) (change_job t s job new (table_of w))
unfolding view member
changed_tabled w t s capacity job new ran answer farm l named = record {
  own = put_own t s new w.rows ∙ ap (λ n. put_job n new (jobs_of t w.rows)) (sym named);
  kept_less = omega (arith, ap outs (put_own t s new w.rows), outs_put s new (jobs_of t w.rows));
  others = λ u differ. put_other u t s new w.rows differ;
  order = then_order t s (is_waiting job.phase) (is_waiting new.phase) w.waiting;
  whose = put_whose (length w.numbers) t s new w.rows (omega (arith, farm.count)) farm.whose;
  stands = put_from 0 t s new w.rows farm.order;
}

pub dropped_tabled : (w : World) (t s capacity : ℕ) → IsFarm w capacity → IsTabled w t (Drops s) (table.drop_job t s (table_of w))
unfolding view member
dropped_tabled w t s capacity farm = record {
  own = drop_own t s w.rows;
  kept_less = omega (arith, ap outs (drop_own t s w.rows), outs_drop s (jobs_of t w.rows));
  others = λ u differ. drop_other u t s w.rows differ;
  order = without_order t s w.waiting;
  whose = drop_whose (length w.numbers) t s w.rows farm.whose;
  stands = drop_from 0 t s w.rows farm.order;
}

-- the next number of a tenant is above those of its jobs
pub next_above : (w : World) (t capacity : ℕ) → IsFarm w capacity → AreBelow (view t w).next (jobs_of t w.rows)
unfolding view member
next_above w t capacity farm = run_below w.config farm.reached.calls w farm.reached.run t

pub added_tabled : (w : World) (t capacity : ℕ) (new : JobData) → IsFarm w capacity → t < length w.config.tenants → new.seq ≡ (view t w).next → IsTabled w t (Adds new) (add_job t new (table_of w))
unfolding view member
added_tabled w t capacity new farm l named =
    let below : AreBelow new.seq (jobs_of t w.rows) = subst (λ n. AreBelow n (jobs_of t w.rows)) (sym named) (next_above w t capacity farm) in
    let rows_are = add_own 0 t new w.rows farm.order below in
    record {
      own = rows_are;
      kept_less = omega (arith, ap outs rows_are, outs_push new (jobs_of t w.rows));
      others = λ u differ. add_other u t new w.rows differ;
      order = then_order t new.seq false (is_waiting new.phase) w.waiting;
      whose = add_whose (length w.numbers) (record { tenant = t; job = new }) w.rows (omega (arith, farm.count)) farm.whose;
      stands = add_from 0 (record { tenant = t; job = new }) w.rows (omega arith) farm.order;
    }

-- ---- the ledger

-- it is a tenant's, where every quantum is in one place
ledger_is : (t : Tenant) (b : BookData) → b.granted ≡ t.granted → b.held ≡ held t → b.spent ≡ t.spent → b.granted ≡ b.free + b.held + b.spent → b ≡ book t
unfolding book free
ledger_is t b granted holds spent whole = same_book b.granted b.free b.held b.spent t.granted (t.granted - held t - t.spent) (held t) t.spent granted (omega (arith, granted, holds, spent, whole)) holds spent

pub changed_book : (t : Tenant) (s : ℕ) (job new : JobData) (ran : ℕ) (answer : Answer) (b : BookData) → find_job s t.jobs ≡ Some job → new.seq ≡ s
    → b.granted ≡ t.granted → b.held + job.left ≡ held t + new.left → b.spent ≡ t.spent + ran → b.granted ≡ b.free + b.held + b.spent → b ≡ book (done t (Changes new ran answer)).after
unfolding held
changed_book t s job new ran answer b found named granted moved spent whole =
    ledger_is (done t (Changes new ran answer)).after b granted (omega (arith, moved, held_put s job new t.jobs found, ap (λ n. held_by (put_job n new t.jobs)) named)) spent whole

pub added_book : (t : Tenant) (new : JobData) (b : BookData) → b.granted ≡ t.granted → b.held ≡ held t + new.left → b.spent ≡ t.spent → b.granted ≡ b.free + b.held + b.spent → b ≡ book (done t (Adds new)).after
unfolding held
added_book t new b granted moved spent whole = ledger_is (done t (Adds new)).after b granted (omega (arith, moved, held_push new t.jobs)) spent whole

pub dropped_book : (t : Tenant) (s : ℕ) (job : JobData) → find_job s t.jobs ≡ Some job → job.left ≡ 0 → book t ≡ book (done t (Drops s)).after
unfolding book free held
dropped_book t s job found none =
    let holds : held_by t.jobs + t.beside ≡ held_by (drop_job s t.jobs) + t.beside = omega (arith, held_drop s job t.jobs found, none) in
    ap (λ n. let b : BookData = record { granted = t.granted; free = t.granted - n - t.spent; held = n; spent = t.spent } in b) holds

-- ---- the call

after_is : (t : Tenant) (f : Effect) → leaves_entry f ≡ true → let a : Tenant = (done t f).after in a ≡ record t { spent = a.spent; next = a.next; used = t.used + 1; jobs = a.jobs }
after_is t (Nothing answer) leaves = absurd (cc)
after_is t (Notes answer) leaves = refl
after_is t (Adds job) leaves = refl
after_is t (Changes job ran answer) leaves = refl
after_is t (Drops s) leaves = refl

-- a call moves the world to the table and to the account that are its effect's
pub effect_moves : (w : World) (t capacity : ℕ) (event : Event) (f : Effect) (all : TableData) (then : Account) → IsFarm w capacity → t < length w.config.tenants → IsPlanned event
    → decided (view t w) event ≡ f → leaves_entry f ≡ true → IsTabled w t f all → IsAccount (done (view t w) f).after then → IsMove w t all then event (done (view t w) f).answer
unfolding view member book kept
effect_moves w t capacity event f all then farm l planned decides leaves it told =
    let a : Tenant = (done (view t w) f).after in
    let spent : a.spent ≡ then.book.spent = sym (ap (λ (b : BookData). b.spent) told.book) in
    let seen : ℕ → ℕ → List JobData → Tenant = λ spent next jobs. record (view t w) { spent = spent; next = next; used = length (entries_of t w.journal) + 1; jobs = jobs } in
    let after : a ≡ moved_view w t all then =
    after_is (view t w) f leaves ∙ ap (λ n. seen n a.next a.jobs) spent ∙ ap (λ n. seen then.book.spent n a.jobs) (sym told.next) ∙ ap (seen then.book.spent then.next) (sym it.own) in
    record {
      known = known_in w t capacity farm l;
      planned = planned;
      told = sym (ap (λ (g : Effect). (done (view t w) g).answer) decides);
      after = ap (λ (g : Effect). (done (view t w) g).after) decides ∙ after;
      noted = sym (ap (λ (g : Effect). is_noted (done (view t w) g).answer) decides) ∙ entry_told (view t w) event ∙ ap leaves_entry decides ∙ leaves;
      line_after = subst (λ (v : Tenant). IsAccount v then) after told;
      kept_less = it.kept_less;
      others = it.others;
      order = it.order;
      whose = it.whose;
      stands = it.stands;
    }

-- a job stands otherwise
pub changed_moves : (w : World) (t s capacity : ℕ) (account : Account) (job new : JobData) (ran : ℕ) (then : BookData) (event : Event) (answer : Answer)
    → IsFarm w capacity → t < length w.config.tenants → account ≡ account_of w t → find_row t s w.rows ≡ Some job → new.seq ≡ job.seq
    → decided (view t w) event ≡ Changes new ran answer → then.spent ≡ account.book.spent + ran
    → then.granted ≡ account.book.granted → then.held + job.left ≡ account.book.held + new.left → then.granted ≡ then.free + then.held + then.spent
    → IsPlanned event → IsMove w t (change_job t s job new (table_of w)) (record account { book = then; used = account.used + 1 }) event answer
unfolding book
changed_moves w t s capacity account job new ran then event answer farm l is found named decides spent granted moved whole planned =
    let a = account_in w t capacity account farm l is in
    let own = own_job w t s job found in
    let seq : new.seq ≡ s = named ∙ found_seq s (view t w).jobs job own in
    let held_is : account.book.held ≡ held (view t w) = ap (λ (b : BookData). b.held) a.book in
    let spent_is : account.book.spent ≡ (view t w).spent = ap (λ (b : BookData). b.spent) a.book in
    let granted_is : account.book.granted ≡ (view t w).granted = ap (λ (b : BookData). b.granted) a.book in
    let ledger = changed_book (view t w) s job new ran answer then own seq (granted ∙ granted_is) (omega (arith, moved, held_is)) (omega (arith, spent, spent_is)) whole in
    effect_moves w t capacity event (Changes new ran answer) (change_job t s job new (table_of w)) (record account { book = then; used = account.used + 1 }) farm l planned decides refl
    (changed_tabled w t s capacity job new ran answer farm l seq) (record { book = ledger; next = a.next; used = omega (arith, a.used) })
