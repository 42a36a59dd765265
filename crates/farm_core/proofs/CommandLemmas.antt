-- What a command makes of the farm once its effect was decided.
use Rattle.std.proofs.Common.{◌≡◌, ⊎_elim, inl, ℕ, ◌+◌, ◌-◌, ◌*◌, ◌<◌, ◌≤◌, ◌==◌, true, false, Option, Some, None, List, [], ◌∷◌, ◌++◌, length, nat_le, nat_lt, refl, sym, ap, ◌∙◌, subst, arith}
use Rattle.std.specs.Prelude.{IfSome, option_map}
use Rattle.std.proofs.lemmas.Bool.{cond_both, cases_Bool, eqb-true, leb-true}
use Rattle.std.proofs.lemmas.Bool.Decides.{nat_tests}
use Rattle.tenant_book.specs.Book.{BookData, after_hold, after_free_up}
use Rattle.strategy.specs.declared.plan.Plan.{Plan}
use Rattle.job_table.specs.Table as kept
use Rattle.job_table.specs.Table.{Row, JobData, TableData, is_out, is_ended, find_row, put_row, drop_row, jobs_of, comes_before, add_row, add_job, change_job, is_waiting, waiting_then}
use Rattle.job_table.specs.Job.{given_up, IsFunded, IsGivenUp}
use Rattle.job_table.specs.declared.phase.Phase.{Phase}
use Rattle.job_table.specs.declared.phase.Phase.TheVariants.{Waiting, Out, Leaving, Dry, Closed, Cancelled}
use Rattle.farm_core.specs.declared.account.Account.{Account}
use Rattle.farm_core.specs.declared.farm.effect.Change.TheVariants as change
use Rattle.farm_core.specs.declared.farm.effect.Effect.{Effect}
use Rattle.farm_core.specs.declared.farm.effect.Effect.TheVariants as effect
use Rattle.farm_core.specs.declared.entry.Event.{Event}
use Rattle.farm_core.specs.declared.entry.Event.TheVariants.{Submit, Fund, Cancel}
use Rattle.farm_core.specs.declared.reply.Line.{Line}
use Rattle.farm_core.specs.declared.reply.Reply.{Reply}
use Rattle.farm_core.specs.declared.reply.Reply.TheVariants as reply
use Rattle.farm_core.specs.Tenant.{Tenant, book, free, held, find_job, line_of}
use Rattle.farm_core.specs.Step as step
use Rattle.farm_core.specs.Step.{Answer, Replied, Nothing, Notes, Adds, Changes, Drops, done, decided, has_room, is_amount, fresh_job}
use Rattle.farm_core.specs.World.{World, table_of, account_of, member, view, Follows}
use Rattle.farm_core.specs.Farm.{IsAccount, IsFarm, IsReply, ArePassed, owed, owed_in}
use Rattle.farm_core.specs.Truth.{IsPlanned}
use Rattle.farm_core.specs.Command.{WaitsThen}
use Rattle.farm_core.specs.Decided.{IsDecided, Fits, IsMade, takes_memory, may_leave}
use Rattle.farm_core.proofs.ViewLemmas.{found_own, moved}
use Rattle.farm_core.specs.Need.{accepted}
use Rattle.farm_core.proofs.DecisionLemmas.{IsNote, Tells, leaves_entry, grounds_of}
use Rattle.farm_core.proofs.ReplyLemmas.{by_reply}
use Rattle.farm_core.proofs.StepLemmas.{fund_steps, gives, cancel_steps, submit_steps}
use Rattle.farm_core.proofs.MoveLemmas.{IsMove, account_in, one_entry, reply_is, stays_follows}
use Rattle.farm_core.proofs.PassedLemmas.{OnlyMore, more_come, more_funded, written_more, written_less}
use Rattle.farm_core.proofs.NeedLemmas.{AreBelow}
use Rattle.farm_core.proofs.OrderLemmas.{same_turns, changed_turns}
use Rattle.farm_core.proofs.RunningLemmas.{found_seq, paid_found, found_held, gone_less}
use Rattle.farm_core.proofs.FarmLemmas.{running_in, granted_most, owed_in-most, owed-most}
use Rattle.farm_core.proofs.ChangeLemmas.{IsTabled, own_job, next_above, noted_tabled, changed_tabled, dropped_tabled, added_tabled, changed_book, added_book, dropped_book, effect_moves}

-- ---- entries that are owed

pub owed_put : (t s : ℕ) (old new : JobData) (rows : List Row) → find_row t s rows ≡ Some old → owed (put_row t s new rows) + owed_in old.phase ≡ owed rows + owed_in new.phase
owed_put t s old new [] found = absurd (cc)
owed_put t s old new (row ∷ rows) found = grind (arith, nat_tests, owed_put t s old new rows)

owed_drop : (t s : ℕ) (rows : List Row) → owed (drop_row t s rows) ≤ owed rows
owed_drop t s [] = omega arith
owed_drop t s (row ∷ rows) = grind (arith, nat_tests, owed_drop t s rows)

owed_add : (new : Row) (rows : List Row) → owed (add_row new rows) ≡ owed rows + owed_in new.job.phase
owed_add new [] = omega arith
owed_add new (row ∷ rows) =
    cond_both (comes_before new.tenant new.job.seq row) (new ∷ row ∷ rows) (row ∷ add_row new rows) (λ (rs : List Row). owed rs ≡ owed (row ∷ rows) + owed_in new.job.phase)
    (λ _. omega arith) (λ _. omega (arith, owed_add new rows))

pub put_length : (t s : ℕ) (new : JobData) (rows : List Row) → length (put_row t s new rows) ≡ length rows
put_length t s new [] = refl
put_length t s new (row ∷ rows) = grind (arith, nat_tests, put_length t s new rows)

gone_owed : (job new : JobData) (phase : Phase) → given_up job phase ≡ Some new → owed_in new.phase + 1 ≤ owed_in phase
gone_owed job new Waiting gone = let same : record job { phase = Cancelled; left = 0; here = false } ≡ new = cc in omega (arith, ap (λ (j : JobData). owed_in j.phase) same)
gone_owed job new (Out slice) gone = let same : record job { phase = Leaving slice } ≡ new = cc in omega (arith, ap (λ (j : JobData). owed_in j.phase) same)
gone_owed job new (Leaving slice) gone = absurd (cc)
gone_owed job new Dry gone = let same : record job { phase = Cancelled; left = 0; here = false } ≡ new = cc in omega (arith, ap (λ (j : JobData). owed_in j.phase) same)
gone_owed job new Closed gone = absurd (cc)
gone_owed job new Cancelled gone = absurd (cc)

-- ---- the tenant's own job

pub own_row : (w : World) (t s : ℕ) (job : JobData) → find_job s (view t w).jobs ≡ Some job → find_row t s w.rows ≡ Some job
unfolding view member
own_row w t s job found = sym (found_own t s w.rows) ∙ found

pub same_job : (a b : JobData) (found : Option JobData) → found ≡ Some a → found ≡ Some b → a ≡ b
same_job a b found one two = cc

no_job : (s : ℕ) (jobs : List JobData) → AreBelow s jobs → find_job s jobs ≡ None
no_job s [] below = refl
no_job s (job ∷ jobs) below =
    cond_both (job.seq == s) (Some job) (find_job s jobs) (λ (o : Option JobData). o ≡ None) (λ is. absurd (omega (arith, below.0, eqb-true job.seq s is))) (λ _. no_job s jobs below.1)

-- a tenant's job that was changed
record IsChanged (w : World) (t s : ℕ) (new : JobData) (all : TableData) : Type 0 where
  job : JobData
  found : find_row t s w.rows ≡ Some job
  named : new.seq ≡ s
  after : all ≡ change_job t s job new (table_of w)

fund_changed : (w : World) (t s quanta : ℕ) (new : JobData) (answer : Answer) (all : TableData) → decided (view t w) (Fund s quanta) ≡ Changes new 0 answer → IsFunded (table_of w) t s quanta all
    → IsChanged w t s new all
fund_changed w t s quanta new answer all decides did =
    let own = own_job w t s did.job did.found in
    let why = grounds_of (view t w) (Fund s quanta) (Changes new 0 answer) decides in
    let then : JobData = record did.job { phase = Waiting; left = did.job.left + quanta } in
    let is : new ≡ then = why.1.2 ∙ ap (λ (j : JobData). let k : JobData = record j { phase = Waiting; left = j.left + quanta } in k) (same_job why.1.0 did.job (find_job s (view t w).jobs) why.1.1 own) in
    record {
      job = did.job;
      found = did.found;
      named = ap (λ (j : JobData). j.seq) is ∙ found_seq s (view t w).jobs did.job own;
      after = did.after ∙ ap (λ (j : JobData). change_job t s did.job j (table_of w)) (sym is);
    }

cancel_changed : (w : World) (t s : ℕ) (new : JobData) (answer : Answer) (all : TableData) → decided (view t w) (Cancel s) ≡ Changes new 0 answer → IsGivenUp (table_of w) t s all
    → IsChanged w t s new all × (owed all.rows + 1 ≤ owed w.rows)
cancel_changed w t s new answer all decides did =
    let own = own_job w t s did.job did.found in
    let why = grounds_of (view t w) (Cancel s) (Changes new 0 answer) decides in
    let gone : given_up did.job did.job.phase ≡ Some new = ap (λ (j : JobData). given_up j j.phase) (sym (same_job why.1.0 did.job (find_job s (view t w).jobs) why.1.1 own)) ∙ why.1.2 in
    let is : did.then ≡ new = same_job did.then new (given_up did.job did.job.phase) did.gone gone in
    let after : all ≡ change_job t s did.job new (table_of w) = did.after ∙ ap (λ (j : JobData). change_job t s did.job j (table_of w)) is in (
      record { job = did.job; found = did.found; named = (gone_less did.job new gone).0 ∙ found_seq s (view t w).jobs did.job own; after = after },
      omega (arith, ap (λ (d : TableData). owed d.rows) after, owed_put t s did.job new w.rows did.found, gone_owed did.job new did.job.phase gone),
    )

-- ---- decisions

-- more quanta for a job make no more than a purse may have
pub fund_most : (t : Tenant) (s quanta : ℕ) (job : JobData) (a : Account) → IsAccount t a → held t + t.spent ≤ t.granted → t.granted ≤ 1000000000000 → find_job s t.jobs ≡ Some job → quanta ≤ a.book.free
    → job.left + quanta ≤ 1000000000000
unfolding book free held
fund_most t s quanta job a told covered limited found some = omega (arith, found_held s t.jobs job found, covered, limited, some, ap (λ (b : BookData). b.free) told.book)

pub fund_decided : (t : Tenant) (s quanta : ℕ) (job : JobData) (line : Line) (a after : Account) → IsAccount t a → held t + t.spent ≤ t.granted
    → has_room 1 t ≡ true → find_job s t.jobs ≡ Some job → is_out job.phase ≡ false → is_ended job.phase ≡ false → is_amount quanta ≡ true → quanta ≤ a.book.free
    → line ≡ record (line_of job) { phase = Waiting; left = job.left + quanta } → after.book ≡ after_hold quanta a.book → IsDecided {J = ℕ} t (Fund s quanta) (effect.Changes line after (change.Fund quanta))
unfolding book free line_of
fund_decided t s quanta job line a after told covered room found here going amount some line_is holds =
    let new : JobData = record job { phase = Waiting; left = job.left + quanta } in
    let free_is : a.book.free ≡ t.granted - held t - t.spent = ap (λ (b : BookData). b.free) told.book in
    let held_is : a.book.held ≡ held t = ap (λ (b : BookData). b.held) told.book in
    let spent_is : a.book.spent ≡ t.spent = ap (λ (b : BookData). b.spent) told.book in
    let granted_is : a.book.granted ≡ t.granted = ap (λ (b : BookData). b.granted) told.book in
    let seq = found_seq s t.jobs job found in
    let named : s ≡ line.seq = sym (ap (λ (x : Line). x.seq) line_is ∙ seq) in
    let steps = fund_steps t s quanta job room found here going amount (omega (arith, some, free_is)) in
    let decides : decided t (Fund s quanta) ≡ Changes new 0 (Replied (reply.Line line)) = steps ∙ ap (λ (x : Line). Changes new 0 (Replied (reply.Line x))) (sym line_is) in
    let ledger = changed_book t s job new 0 (Replied (reply.Line line)) (after_hold quanta a.book) found seq granted_is (omega (arith, held_is)) (omega (arith, spent_is)) (omega (arith, some, free_is, held_is, spent_is, granted_is, covered)) in
    (ap (λ n. Fund n quanta) named, (new, decides), holds ∙ ledger ∙ sym (ap (λ (g : step.Effect). book (done t g).after) decides))

-- what a cancel frees is held
pub cancel_less : (t : Tenant) (s : ℕ) (job : JobData) (line : Line) (a : Account) → IsAccount t a → find_job s t.jobs ≡ Some job → option_map line_of (given_up job job.phase) ≡ Some line
    → (line.left ≤ job.left) × (job.left - line.left ≤ a.book.held)
unfolding book held line_of
cancel_less t s job line a told found given =
    let it = gives job line given in
    let less : line.left ≤ job.left = omega (arith, (gone_less job it.then it.gone).3, ap (λ (x : Line). x.left) it.line_is) in
    (less, omega (arith, found_held s t.jobs job found, ap (λ (b : BookData). b.held) told.book))

pub cancel_decided : (t : Tenant) (s : ℕ) (job : JobData) (line : Line) (a after : Account) → IsAccount t a → held t + t.spent ≤ t.granted
    → has_room 1 t ≡ true → find_job s t.jobs ≡ Some job → option_map line_of (given_up job job.phase) ≡ Some line → after.book ≡ after_free_up (job.left - line.left) a.book
    → IsDecided {J = ℕ} t (Cancel s) (effect.Changes line after change.GiveUp)
unfolding book free line_of
cancel_decided t s job line a after told covered room found given frees =
    let it = gives job line given in
    let less = cancel_less t s job line a told found given in
    let left : line.left ≡ it.then.left = ap (λ (x : Line). x.left) it.line_is in
    let free_is : a.book.free ≡ t.granted - held t - t.spent = ap (λ (b : BookData). b.free) told.book in
    let held_is : a.book.held ≡ held t = ap (λ (b : BookData). b.held) told.book in
    let spent_is : a.book.spent ≡ t.spent = ap (λ (b : BookData). b.spent) told.book in
    let granted_is : a.book.granted ≡ t.granted = ap (λ (b : BookData). b.granted) told.book in
    let seq : it.then.seq ≡ s = (gone_less job it.then it.gone).0 ∙ found_seq s t.jobs job found in
    let named : s ≡ line.seq = sym (ap (λ (x : Line). x.seq) it.line_is ∙ seq) in
    let decides : decided t (Cancel s) ≡ Changes it.then 0 (Replied (reply.Line line)) = cancel_steps t s job it.then room found it.gone ∙ ap (λ (x : Line). Changes it.then 0 (Replied (reply.Line x))) (sym it.line_is) in
    let ledger = changed_book t s job it.then 0 (Replied (reply.Line line)) (after_free_up (job.left - line.left) a.book) found seq granted_is (omega (arith, held_is, left, less.0, less.1)) (omega (arith, spent_is))
    (omega (arith, free_is, held_is, spent_is, granted_is, covered, less.1)) in
    (ap Cancel named, (it.then, decides), frees ∙ ledger ∙ sym (ap (λ (g : step.Effect). book (done t g).after) decides))

pub submit_decided : (t : Tenant) (plan : Plan) (quanta : ℕ) (job : JobData) (a after : Account) → IsAccount t a → held t + t.spent ≤ t.granted
    → has_room 1 t ≡ true → is_amount quanta ≡ true → nat_lt (length t.jobs) t.terms.jobs ≡ true → quanta ≤ a.book.free
    → job ≡ record { seq = a.next; plan = plan; phase = Waiting; nodes = 0; left = quanta; here = true } → after.book ≡ after_hold quanta a.book → IsDecided {J = ℕ} t (Submit plan quanta) (effect.Adds job after)
unfolding book free
submit_decided t plan quanta job a after told covered room amount more some job_is holds =
    let free_is : a.book.free ≡ t.granted - held t - t.spent = ap (λ (b : BookData). b.free) told.book in
    let held_is : a.book.held ≡ held t = ap (λ (b : BookData). b.held) told.book in
    let spent_is : a.book.spent ≡ t.spent = ap (λ (b : BookData). b.spent) told.book in
    let granted_is : a.book.granted ≡ t.granted = ap (λ (b : BookData). b.granted) told.book in
    let fresh : fresh_job t plan quanta ≡ job = ap (λ n. let j : JobData = record { seq = n; plan = plan; phase = Waiting; nodes = 0; left = quanta; here = true } in j) (sym told.next) ∙ sym job_is in
    let decides : decided t (Submit plan quanta) ≡ Adds job = submit_steps t plan quanta room amount more (omega (arith, some, free_is)) ∙ ap Adds fresh in
    let ledger = added_book t job (after_hold quanta a.book) granted_is (omega (arith, held_is, ap (λ (j : JobData). j.left) job_is)) spent_is (omega (arith, some, free_is, held_is, spent_is, granted_is, covered)) in
    (decides, holds ∙ ledger ∙ sym (ap (λ (g : step.Effect). book (done t g).after) decides))

-- ---- commands

-- what is answered without a change
still_waits : (w v : World) (t : ℕ) (e : Event) (told : Reply) → table_of v ≡ table_of w → ((s : ℕ) → told ≡ reply.Job s → ⊥) → WaitsThen w t e told v
still_waits w v t (Submit plan quanta) told same none = λ s is. absurd (none s is)
still_waits w v t (Fund s quanta) told same none = same_turns w v t s same
still_waits w v t (Cancel s) told same none = same_turns w v t s same
still_waits w v t e told same none = tt

-- for want of entries nothing changes
full_told : (t : Tenant) (e : Event) (answer : Reply) → decided t e ≡ Nothing (Replied answer) → reply.NoRoom ≡ answer
full_told t e answer decides =
    ⊎_elim (λ (is : Replied answer ≡ Replied reply.NoRoom). let same : reply.NoRoom ≡ answer = cc in same) (λ (no : Replied answer ≡ step.NoTurn). absurd (cc))
    (grounds_of t e (Nothing (Replied answer)) decides)

pub full_reply : (w : World) (t : ℕ) (e : Event) (answer : Reply) → t < length w.config.tenants → decided (view t w) e ≡ Nothing (Replied answer) → IsReply w t e answer w × WaitsThen w t e answer w
full_reply w t e answer l decides =
    let is = full_told (view t w) e answer decides in
    subst (λ a. IsReply w t e a w × WaitsThen w t e a w) is
    (stays_follows w t e (Replied reply.NoRoom) l (subst (λ a. decided (view t w) e ≡ Nothing (Replied a)) (sym is) decides) refl, still_waits w w t e reply.NoRoom refl (λ s is. absurd (cc)))

module _ (J : Type 0) (w : World) (t capacity : ℕ) (e : Event) (farm : IsFarm w capacity) (l : t < length w.config.tenants) where
  at : (x : Event) (new : JobData) (answer : Answer) → e ≡ x → decided (view t w) e ≡ Changes new 0 answer → decided (view t w) x ≡ Changes new 0 answer
  at x new answer is decides = subst (λ y. decided (view t w) y ≡ Changes new 0 answer) is decides

  -- and else there is room for an entry
  pub has_entry : (f : Effect J) → IsDecided (view t w) e f → ((answer : Reply) → f ≡ effect.Nothing answer → ⊥) → has_room 1 (view t w) ≡ true
  has_entry (effect.Nothing answer) decides some = absurd (some answer refl)
  has_entry (effect.Notes answer) decides some = (grounds_of (view t w) e (Notes answer) decides).0
  has_entry (effect.Adds job after) decides some = (grounds_of (view t w) e (Adds job) decides.0).0
  has_entry (effect.Changes line after (change.Fund quanta)) decides some =
      (grounds_of (view t w) (Fund line.seq quanta) (Changes decides.1.0 0 (Replied (reply.Line line))) (at (Fund line.seq quanta) decides.1.0 (Replied (reply.Line line)) decides.0 decides.1.1)).0
  has_entry (effect.Changes line after change.GiveUp) decides some =
      (grounds_of (view t w) (Cancel line.seq) (Changes decides.1.0 0 (Replied (reply.Line line))) (at (Cancel line.seq) decides.1.0 (Replied (reply.Line line)) decides.0 decides.1.1)).0
  has_entry (effect.Drops s) decides some = (grounds_of (view t w) e (Drops s) decides).0

  next_free : find_row t (view t w).next w.rows ≡ None
  next_free = sym (found_own t (view t w).next w.rows) ∙ no_job (view t w).next (jobs_of t w.rows) (next_above w t capacity farm)

  -- more quanta than are free make no more than a purse may have
  fund_bound : (s quanta : ℕ) (found : Option JobData) → find_row t s w.rows ≡ found → nat_le quanta (free (view t w)) ≡ true → IfSome found (λ job. job.nodes + job.left + quanta ≤ 1000000000000)
  unfolding free held
  fund_bound s quanta None found some = tt
  fund_bound s quanta (Some job) found some =
      let own = own_job w t s job found in
      let running = running_in w t capacity farm l in
      omega (arith, (paid_found (view t w).spent s (view t w).jobs job own running.jobs).0, found_held s (view t w).jobs job own, running.covered, leb-true quanta (free (view t w)) some, granted_most w t farm.config l)

  -- the rows are such that the effect can be made
  pub fits : (f : Effect J) → IsDecided (view t w) e f → ((answer : Reply) → f ≡ effect.Nothing answer → ⊥) → Fits t f w.rows
  fits (effect.Nothing answer) decides some = absurd (some answer refl)
  fits (effect.Notes answer) decides some = tt
  fits (effect.Adds job after) decides some =
      let why = grounds_of (view t w) e (Adds job) decides.0 in
      ap (λ (j : JobData). find_row t j.seq w.rows) why.1.3 ∙ next_free
  fits (effect.Changes line after (change.Fund quanta)) decides some =
      let why = grounds_of (view t w) (Fund line.seq quanta) (Changes decides.1.0 0 (Replied (reply.Line line))) (at (Fund line.seq quanta) decides.1.0 (Replied (reply.Line line)) decides.0 decides.1.1) in
      fund_bound line.seq quanta (find_row t line.seq w.rows) refl why.2
  fits (effect.Changes line after change.GiveUp) decides some =
      let why = grounds_of (view t w) (Cancel line.seq) (Changes decides.1.0 0 (Replied (reply.Line line))) (at (Cancel line.seq) decides.1.0 (Replied (reply.Line line)) decides.0 decides.1.1) in
      (why.1.0, decides.1.0, own_row w t line.seq why.1.0 why.1.1, why.1.2)
  fits (effect.Drops s) decides some = tt

  moves_as : (f : step.Effect) (all same : TableData) (then b : Account) (told answer : Reply) → IsPlanned e → decided (view t w) e ≡ f → leaves_entry f ≡ true → (done (view t w) f).answer ≡ Replied answer
      → all ≡ same → then ≡ b → told ≡ answer → IsTabled w t f same → IsAccount (done (view t w) f).after b → IsMove w t all then e (Replied told)
  moves_as f all same then b told answer planned decides leaves answers all_is then_is told_is tabled accounted =
      rw (all_is, then_is, told_is) (subst (λ a. IsMove w t same b e a) answers (effect_moves w t capacity e f same b farm l planned decides leaves tabled accounted))

  fund_as : (line : Line) (after : Account) (quanta : ℕ) (all : TableData) (d : IsDecided {J = J} (view t w) e (effect.Changes line after (change.Fund quanta))) → IsFunded (table_of w) t line.seq quanta all
      → IsChanged w t line.seq d.1.0 all
  fund_as line after quanta all d did = fund_changed w t line.seq quanta d.1.0 (Replied (reply.Line line)) all (at (Fund line.seq quanta) d.1.0 (Replied (reply.Line line)) d.0 d.1.1) did

  cancel_as : (line : Line) (after : Account) (all : TableData) (d : IsDecided {J = J} (view t w) e (effect.Changes line after change.GiveUp)) → IsGivenUp (table_of w) t line.seq all
      → IsChanged w t line.seq d.1.0 all × (owed all.rows + 1 ≤ owed w.rows)
  cancel_as line after all d did = cancel_changed w t line.seq d.1.0 (Replied (reply.Line line)) all (at (Cancel line.seq) d.1.0 (Replied (reply.Line line)) d.0 d.1.1) did

  pub made_moves : (f : Effect J) (all : TableData) (account then : Account) (told : Reply) → account ≡ account_of w t → IsPlanned e → IsDecided (view t w) e f → IsMade t f (table_of w) account all then told
      → IsMove w t all then e (Replied told)
  unfolding book held free
  made_moves (effect.Nothing answer) all account then told is planned decides made = absurd made
  made_moves (effect.Notes answer) all account then told is planned decides made =
      let a = account_in w t capacity account farm l is in
      moves_as (Notes answer) all (table_of w) then (record account { used = account.used + 1 }) told answer planned decides refl refl made.0 made.1 made.2
      (noted_tabled w t capacity answer farm) (record { book = a.book; next = a.next; used = omega (arith, a.used) })
  made_moves (effect.Adds job after) all account then told is planned decides made =
      let a = account_in w t capacity account farm l is in
      let why = grounds_of (view t w) e (Adds job) decides.0 in
      moves_as (Adds job) all (add_job t job (table_of w)) then (record { book = after.book; next = account.next + 1; used = account.used + 1 }) told (reply.Job job.seq) planned decides.0 refl refl made.0 made.1 made.2
      (added_tabled w t capacity job farm l (ap (λ (j : JobData). j.seq) why.1.3))
      (record { book = decides.1 ∙ ap (λ (g : step.Effect). book (done (view t w) g).after) decides.0; next = omega (arith, a.next); used = omega (arith, a.used) })
  made_moves (effect.Changes line after (change.Fund quanta)) all account then told is planned decides made =
      let a = account_in w t capacity account farm l is in
      let it = fund_as line after quanta all decides made.0 in
      let new : JobData = decides.1.0 in
      moves_as (Changes new 0 (Replied (reply.Line line))) all (change_job t line.seq it.job new (table_of w)) then (record account { book = after.book; used = account.used + 1 }) told (reply.Line line) planned decides.1.1 refl refl it.after made.1 made.2
      (changed_tabled w t line.seq capacity it.job new 0 (Replied (reply.Line line)) farm l it.named)
      (record { book = decides.2 ∙ ap (λ (g : step.Effect). book (done (view t w) g).after) decides.1.1; next = a.next; used = omega (arith, a.used) })
  made_moves (effect.Changes line after change.GiveUp) all account then told is planned decides made =
      let a = account_in w t capacity account farm l is in
      let it = (cancel_as line after all decides made.0).0 in
      let new : JobData = decides.1.0 in
      moves_as (Changes new 0 (Replied (reply.Line line))) all (change_job t line.seq it.job new (table_of w)) then (record account { book = after.book; used = account.used + 1 }) told (reply.Line line) planned decides.1.1 refl refl it.after made.1 made.2
      (changed_tabled w t line.seq capacity it.job new 0 (Replied (reply.Line line)) farm l it.named)
      (record { book = decides.2 ∙ ap (λ (g : step.Effect). book (done (view t w) g).after) decides.1.1; next = a.next; used = omega (arith, a.used) })
  made_moves (effect.Drops s) all account then told is planned decides made =
      let a = account_in w t capacity account farm l is in
      let why = (grounds_of (view t w) e (Drops s) decides).1 in
      let named : why.0 ≡ s = sym (found_seq why.0 (view t w).jobs why.1 why.4) ∙ sym why.3 in
      let none : why.1.left ≡ 0 = (paid_found (view t w).spent why.0 (view t w).jobs why.1 why.4 (running_in w t capacity farm l).jobs).1 why.5 in
      moves_as (Drops s) all (kept.drop_job t s (table_of w)) then (record account { used = account.used + 1 }) told (reply.Forgotten s) planned decides refl refl made.0 made.1 made.2
      (dropped_tabled w t s capacity farm)
      (record { book = a.book ∙ dropped_book (view t w) s why.1 (subst (λ n. find_job n (view t w).jobs ≡ Some why.1) named why.4) none; next = a.next; used = omega (arith, a.used) })

  -- who waits then,
  pub made_waits : (f : Effect J) (v : World) (account then : Account) (told : Reply) → IsDecided (view t w) e f → IsMade t f (table_of w) account (table_of v) then told → WaitsThen w t e told v
  made_waits (effect.Nothing answer) v account then told decides made = absurd made
  made_waits (effect.Notes answer) v account then told decides made =
      let note : IsNote (view t w) e answer = (grounds_of (view t w) e (Notes answer) decides).1 in
      still_waits w v t e told made.0 (λ s is. let same : answer ≡ reply.Job s = sym made.2 ∙ is in let no : Tells (view t w) (reply.Job s) = subst (Tells (view t w)) same note.tells in no)
  made_waits (effect.Adds job after) v account then told decides made =
      let why = (grounds_of (view t w) e (Adds job) decides.0).1 in
      subst (λ x. WaitsThen w t x told v) (sym why.2)
      (λ s is.
      let named : job.seq ≡ s = (let same : reply.Job job.seq ≡ reply.Job s = sym made.2 ∙ is in cc) in
      ap (λ (d : TableData). d.waiting) made.0 ∙ ap (λ (j : JobData). waiting_then t j.seq false (is_waiting j.phase) w.waiting) why.3
      ∙ ap (λ n. w.waiting ++ (t, n) ∷ []) (sym (ap (λ (j : JobData). j.seq) why.3) ∙ named))
  made_waits (effect.Changes line after (change.Fund quanta)) v account then told decides made =
      let it = fund_as line after quanta (table_of v) decides made.0 in
      subst (λ x. WaitsThen w t x told v) (sym decides.0) (changed_turns w t line.seq it.job decides.1.0 (table_of v) it.found it.named it.after)
  made_waits (effect.Changes line after change.GiveUp) v account then told decides made =
      let it = (cancel_as line after (table_of v) decides made.0).0 in
      subst (λ x. WaitsThen w t x told v) (sym decides.0) (changed_turns w t line.seq it.job decides.1.0 (table_of v) it.found it.named it.after)
  made_waits (effect.Drops s) v account then told decides made =
      let why = (grounds_of (view t w) e (Drops s) decides).1 in
      subst (λ x. WaitsThen w t x told v) (sym why.2) tt

  -- that none of them waits no longer,
  made_more : (f : Effect J) (all : TableData) (account then : Account) (told : Reply) → IsDecided (view t w) e f → IsMade t f (table_of w) account all then told → may_leave f ≡ false → OnlyMore w.waiting all.waiting
  made_more (effect.Nothing answer) all account then told decides made stays = absurd made
  made_more (effect.Notes answer) all account then told decides made stays = inl (ap (λ (d : TableData). d.waiting) made.0)
  made_more (effect.Adds job after) all account then told decides made stays = more_come t job.seq (is_waiting job.phase) w.waiting all.waiting (ap (λ (d : TableData). d.waiting) made.0)
  made_more (effect.Changes line after (change.Fund quanta)) all account then told decides made stays = more_funded w t line.seq quanta all made.0
  made_more (effect.Changes line after change.GiveUp) all account then told decides made stays = absurd (cc)
  made_more (effect.Drops s) all account then told decides made stays = absurd (cc)

  -- and that there is room for all entries
  pub made_room : (f : Effect J) (all : TableData) (account then : Account) (told : Reply) (journal old new : ℕ) → IsDecided (view t w) e f → IsMade t f (table_of w) account all then told
      → journal + owed w.rows ≤ old → old ≤ new → (takes_memory f ≡ true → journal + 2 * length w.rows + 3 ≤ new) → journal + 1 + owed all.rows ≤ new
  made_room (effect.Nothing answer) all account then told journal old new decides made was more room = absurd made
  made_room (effect.Notes answer) all account then told journal old new decides made was more room = omega (arith, room refl, owed-most w.rows, ap (λ (d : TableData). owed d.rows) made.0)
  made_room (effect.Adds job after) all account then told journal old new decides made was more room =
      omega (arith, room refl, owed-most w.rows, ap (λ (d : TableData). owed d.rows) made.0, owed_add (record { tenant = t; job = job }) w.rows, owed_in-most job.phase)
  made_room (effect.Changes line after (change.Fund quanta)) all account then told journal old new decides made was more room =
      let it = fund_as line after quanta all decides made.0 in
      omega (arith, room refl, ap (λ (d : TableData). owed d.rows) it.after, owed-most (put_row t line.seq decides.1.0 w.rows), put_length t line.seq decides.1.0 w.rows)
  made_room (effect.Changes line after change.GiveUp) all account then told journal old new decides made was more room = omega (arith, was, more, (cancel_as line after all decides made.0).1)
  made_room (effect.Drops s) all account then told journal old new decides made was more room = omega (arith, room refl, owed-most w.rows, ap (λ (d : TableData). owed d.rows) made.0, owed_drop t s w.rows)

  -- what is written then keeps the farm and follows
  pub made_written : (f : Effect J) (v : World) (all : TableData) (account then : Account) (told : Reply) (new : ℕ) (passed : Option (ℕ × ℕ)) → account ≡ account_of w t → IsPlanned e
      → IsDecided (view t w) e f → IsMade t f (table_of w) account all then told → v ≡ moved w t all then (one_entry t e) → length w.journal + 1 + owed all.rows ≤ new
      → ArePassed w passed → (may_leave f ≡ true → has_room 2 (view t w) ≡ false → passed ≡ None) → IsFarm v new × IsReply w t e told v × ArePassed v passed
  made_written f v all account then told new passed is planned decides made wrote room are begins =
      let move = made_moves f all account then told is planned decides made in
      let it : IsFarm v new × Follows w t e (Replied told) v × ArePassed v passed =
      ⊎_elim (λ (goes : may_leave f ≡ true). written_less w v t all then e (Replied told) capacity new passed farm move wrote room (begins goes) are)
      (λ (stays : may_leave f ≡ false). written_more w v t all then e (Replied told) capacity new passed farm move wrote room (made_more f all account then told decides made stays) are)
      (cases_Bool (may_leave f)) in
      (it.0, reply_is w t e told v move.noted it.1, it.2)

-- ---- a cancel that is accepted

cancel_needs_none : {J : Type 0} (t : Tenant) (s : ℕ) (f : Effect J) (line : Line) → IsDecided t (Cancel s) f → (step.step t (Cancel s)).answer ≡ Replied (reply.Line line) → takes_memory f ≡ false
cancel_needs_none t s (effect.Nothing answer) line decides accepts =
    let told : Replied answer ≡ Replied (reply.Line line) = sym (ap (λ (g : step.Effect). (done t g).answer) decides) ∙ accepts in
    ⊎_elim (λ (is : Replied answer ≡ Replied reply.NoRoom). absurd (cc)) (λ (no : Replied answer ≡ step.NoTurn). absurd (cc)) (grounds_of t (Cancel s) (Nothing (Replied answer)) decides)
cancel_needs_none t s (effect.Notes answer) line decides accepts =
    let told : Replied answer ≡ Replied (reply.Line line) = sym (ap (λ (g : step.Effect). (done t g).answer) decides) ∙ accepts in
    let none : accepted (Cancel s) (Replied (reply.Line line)) ≡ [] = subst (λ a. accepted (Cancel s) a ≡ []) told (grounds_of t (Cancel s) (Notes answer) decides).1.accepted in
    absurd (cc)
cancel_needs_none t s (effect.Adds job after) line decides accepts = let told : Replied (reply.Job job.seq) ≡ Replied (reply.Line line) = sym (ap (λ (g : step.Effect). (done t g).answer) decides.0) ∙ accepts in absurd (cc)
cancel_needs_none t s (effect.Changes other after (change.Fund quanta)) line decides accepts = let no : Cancel s ≡ Fund other.seq quanta = decides.0 in absurd (cc)
cancel_needs_none t s (effect.Changes other after change.GiveUp) line decides accepts = refl
cancel_needs_none t s (effect.Drops n) line decides accepts = let told : Replied (reply.Forgotten n) ≡ Replied (reply.Line line) = sym (ap (λ (g : step.Effect). (done t g).answer) decides) ∙ accepts in absurd (cc)

pub cancel_accepted : {J : Type 0} (old new : World) (t s : ℕ) (f : Effect J) (told : Reply) (line : Line) → IsDecided (view t old) (Cancel s) f → IsReply old t (Cancel s) told new
    → (told ≡ reply.NoMemory → takes_memory f ≡ true) → (step.step (view t old) (Cancel s)).answer ≡ Replied (reply.Line line) → told ≡ reply.Line line
cancel_accepted old new t s f told line decides h needs accepts =
    ⊎_elim
    (λ (none : (told ≡ reply.NoMemory) × (new ≡ old) × (has_room 1 (view t old) ≡ true)).
    let not : takes_memory f ≡ false = cancel_needs_none (view t old) s f line decides accepts in
    let yes : takes_memory f ≡ true = needs none.0 in
    absurd (cc))
    (λ (follows : Follows old t (Cancel s) (Replied told) new). let same : Replied told ≡ Replied (reply.Line line) = follows.answer_is ∙ accepts in cc)
    (by_reply old t (Cancel s) told new h)
