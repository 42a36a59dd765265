-- Turns that are taken and given back, in the farm.
use Rattle.std.proofs.Common.{◌≡◌, ◌⊎◌, inl, inr, ℕ, ◌+◌, ◌-◌, ◌<◌, ◌≤◌, ◌*◌, min, ◌==◌, ◌&&◌, ◌||◌, Bool, true, false, cond, Some, None, List, [], ◌∷◌, length, refl, sym, ap, ◌∙◌, subst, arith, ⊎_elim, eq-eqb}
use Rattle.std.specs.Prelude.{option_map}
use Rattle.std.proofs.lemmas.Bool.{cond_both, and_parts, eqb-true}
use Rattle.std.proofs.lemmas.Bool.Decides.{nat_tests}
use Rattle.mrcpsp.specs.Numbers.{first_from}
use Rattle.tenant_book.specs.Book.{BookData, after_spend, after_free_up}
use Rattle.strategy.specs.Outcome.{is_closed}
use Rattle.strategy.specs.declared.plan.Plan.{Plan}
use Rattle.strategy.specs.Search.{Meaning, nodes_within}
use Rattle.job_table.specs.Table.{Row, JobData, TableData, is_waiting, is_out, find_row, put_row, without, waiting_then, change_job}
use Rattle.job_table.specs.Job.{gone_out, is_turn, phase_after, back, meaning_of, IsOwn, IsSent, IsBack}
use Rattle.job_table.specs.declared.phase.Phase.{Phase}
use Rattle.job_table.specs.declared.phase.Phase.TheVariants.{Waiting, Out, Leaving, Dry, Closed, Cancelled}
use Rattle.farm_core.specs.declared.entry.Event.TheVariants.{Take, Give}
use Rattle.farm_core.specs.declared.account.Account.{Account}
use Rattle.farm_core.specs.declared.reply.Line.{Line}
use Rattle.farm_core.specs.declared.reply.Reply.TheVariants as reply
use Rattle.farm_core.specs.Tenant.{book, held, find_job, line_of, nodes_of_turn}
use Rattle.farm_core.specs.Step.{Replied, Sent, NoTurn, is_slice, has_room, may_have_run}
use Rattle.farm_core.specs.World.{World, table_of, account_of, view, Follows}
use Rattle.farm_core.specs.Farm.{IsFarm, owed, owed_in}
use Rattle.farm_core.specs.Turn.{IsTurn, IsReady}
use Rattle.farm_core.proofs.MoveLemmas.{IsMove, account_in, stays_follows}
use Rattle.farm_core.proofs.RunningLemmas.{found_held, after_back}
use Rattle.farm_core.proofs.FarmLemmas.{owed-most}
use Rattle.farm_core.proofs.StepLemmas.{told, untold, take_none, take_not, take_steps, give_steps}
use Rattle.farm_core.proofs.ChangeLemmas.{own_job, whole_in, changed_moves}
use Rattle.farm_core.proofs.CommandLemmas.{own_row, same_job, owed_put, put_length}
use Rattle.farm_core.proofs.PlaceLemmas.{first_from-most}
use Rattle.farm_core.proofs.NeedLemmas.{turn_ran}

-- a job that is not there, or cannot be taken
pub take_unknown : (w : World) (t s slice : ℕ) → t < length w.config.tenants → option_map line_of (find_job s (view t w).jobs) ≡ None → Follows w t (Take s slice) NoTurn w
take_unknown w t s slice known is = stays_follows w t (Take s slice) NoTurn known (take_none (view t w) s slice (untold (view t w) s is)) refl

pub take_refused : (w : World) (t s slice : ℕ) (line : Line) → t < length w.config.tenants → option_map line_of (find_job s (view t w).jobs) ≡ Some line → (is_waiting line.phase && is_slice slice && has_room 2 (view t w)) ≡ false
    → Follows w t (Take s slice) NoTurn w
unfolding line_of
take_refused w t s slice line known is not =
    let it = told (view t w) s line is in
    let phase : it.job.phase ≡ line.phase = ap (λ (l : Line). l.phase) it.line_is in
    let not_is : (is_waiting it.job.phase && is_slice slice && has_room 2 (view t w)) ≡ false = ap (λ (p : Phase). is_waiting p && is_slice slice && has_room 2 (view t w)) phase ∙ not in
    stays_follows w t (Take s slice) NoTurn known (take_not (view t w) s slice it.job it.found not_is) refl

-- where it can be taken, the job is ready
pub take_ready : (w : World) (t s slice : ℕ) (line : Line) → t < length w.config.tenants → option_map line_of (find_job s (view t w).jobs) ≡ Some line
    → (is_waiting line.phase && is_slice slice && has_room 2 (view t w)) ≡ true → IsReady w t s slice
unfolding line_of
take_ready w t s slice line known is may =
    let it = told (view t w) s line is in
    let phase : it.job.phase ≡ line.phase = ap (λ (l : Line). l.phase) it.line_is in
    let parts = and_parts (is_waiting line.phase && is_slice slice) (has_room 2 (view t w)) may in
    let first = and_parts (is_waiting line.phase) (is_slice slice) parts.0 in
    record { job = it.job; known = known; found = it.found; waits = ap is_waiting phase ∙ first.0; slice_is = first.1; room = parts.1 }

-- a turn that goes out
pub record IsGoing (w : World) (t s slice : ℕ) (account : Account) (m : Meaning) (all : TableData) : Type 0 where
  pub job : JobData
  pub found : find_job s (view t w).jobs ≡ Some job
  pub search : m ≡ meaning_of t job
  pub turns : all.waiting ≡ without t s w.waiting
  pub moves : IsMove w t all (record account { book = account.book; used = account.used + 1 }) (Take s slice) (Sent (line_of (gone_out slice job)))
  pub room : owed all.rows ≤ 2 * length w.rows

pub take_moves : (w : World) (t s slice capacity : ℕ) (account : Account) (line : Line) (m : Meaning) (all : TableData) → IsFarm w capacity → t < length w.config.tenants → account ≡ account_of w t
    → option_map line_of (find_job s (view t w).jobs) ≡ Some line → (is_waiting line.phase && is_slice slice && has_room 2 (view t w)) ≡ true → IsSent (table_of w) t s slice m all → IsGoing w t s slice account m all
unfolding line_of
take_moves w t s slice capacity account line m all farm l is line_is may did =
    let it = told (view t w) s line line_is in
    let there = own_row w t s it.job it.found in
    let job_is : did.job ≡ it.job = same_job did.job it.job (find_row t s w.rows) did.found there in
    let new : JobData = gone_out slice it.job in
    let after : TableData = change_job t s it.job new (table_of w) in
    let after_is : all ≡ after = did.after ∙ ap (λ (j : JobData). change_job t s j (gone_out slice j) (table_of w)) job_is in
    let may_is = and_parts (is_waiting line.phase && is_slice slice) (has_room 2 (view t w)) may in
    let may_wait = and_parts (is_waiting line.phase) (is_slice slice) may_is.0 in
    let waits : is_waiting it.job.phase ≡ true = ap (λ (x : Line). is_waiting x.phase) it.line_is ∙ may_wait.0 in
    let steps = take_steps (view t w) s slice it.job it.found waits may_wait.1 may_is.1 in
    let whole = whole_in w t capacity account farm l is in
    let moves : IsMove w t after (record account { book = account.book; used = account.used + 1 }) (Take s slice) (Sent (line_of new)) =
    changed_moves w t s capacity account it.job new 0 account.book (Take s slice) (Sent (line_of new)) farm l is there refl steps (omega arith) refl refl whole tt in
    record {
      job = it.job;
      found = it.found;
      search = did.search ∙ ap (meaning_of t) job_is;
      turns = ap (λ (d : TableData). d.waiting) after_is ∙ ap (λ (b : Bool). waiting_then t s b false w.waiting) waits;
      moves = subst (λ (d : TableData). IsMove w t d (record account { book = account.book; used = account.used + 1 }) (Take s slice) (Sent (line_of new))) (sym after_is) moves;
      room = omega (arith, ap (λ (d : TableData). owed d.rows) after_is, owed-most (put_row t s new w.rows), put_length t s new w.rows);
    }

last_of : (a : Bool) {b : Bool} → b ≡ true → (a || b) ≡ true
last_of true h = refl
last_of false h = h

first_most : (test : ℕ → Bool) (k : ℕ) → first_from test k 0 ≤ k
first_most test k = omega (arith, first_from-most test k 0)

-- a turn that came back ran nothing, or all that it could
abbrev HasRun : ℕ → ℕ → ℕ → Plan → ℕ → Type 0
HasRun slice ran left plan nodes = (ran ≡ 0) ⊎ (ran ≡ first_from (λ r. is_closed plan (nodes + r)) (min slice left) 0)

has_run : (slice ran : ℕ) (job : JobData) (phase : Phase) → is_turn slice phase ≡ true → HasRun slice ran job.left job.plan job.nodes → may_have_run ran job phase ≡ true
unfolding nodes_of_turn
has_run slice ran job Waiting turn all = absurd (cc)
has_run slice ran job (Out most) turn all =
    let same : most ≡ slice = eqb-true most slice turn in
    rw same (⊎_elim (λ (none : ran ≡ 0). rw none refl) (λ (whole : ran ≡ first_from (λ r. is_closed job.plan (job.nodes + r)) (min slice job.left) 0). last_of (ran == 0) (eq-eqb ran (nodes_of_turn (min slice job.left) job) whole)) all)
has_run slice ran job (Leaving most) turn all =
    let same : most ≡ slice = eqb-true most slice turn in
    rw same (⊎_elim (λ (none : ran ≡ 0). rw none refl) (λ (whole : ran ≡ first_from (λ r. is_closed job.plan (job.nodes + r)) (min slice job.left) 0). last_of (ran == 0) (eq-eqb ran (nodes_of_turn (min slice job.left) job) whole)) all)
has_run slice ran job Dry turn all = absurd (cc)
has_run slice ran job Closed turn all = absurd (cc)
has_run slice ran job Cancelled turn all = absurd (cc)

-- an own turn began where its job stands
pub own_run : (t slice ran : ℕ) (m : Meaning) (job : JobData) → IsTurn slice ran m → IsOwn t slice ran m job → may_have_run ran job job.phase ≡ true
unfolding nodes_within
own_run t slice ran m job turn own =
    let plan_is : turn.start.plan ≡ job.plan = sym (ap (λ (x : Meaning). x.plan) turn.after) ∙ own.plan in
    let nodes_are : turn.start.nodes ≡ job.nodes = omega (arith, ap (λ (x : Meaning). x.nodes) turn.after, own.nodes) in
    let left_is : m.left ≡ turn.start.left - ran = ap (λ (x : Meaning). x.left) turn.after in
    let all : HasRun slice ran job.left job.plan job.nodes =
    ⊎_elim (λ (none : ran ≡ 0). inl none)
    (λ (whole : ran ≡ first_from (λ r. is_closed turn.start.plan (turn.start.nodes + r)) (min slice turn.start.left) 0).
    let most : ran ≤ min slice turn.start.left = rw whole (first_most (λ r. is_closed turn.start.plan (turn.start.nodes + r)) (min slice turn.start.left)) in
    let same_left : turn.start.left ≡ job.left = omega (arith, most, left_is, own.left) in
    inr (whole ∙ ap (λ (p : Plan). first_from (λ r. is_closed p (turn.start.nodes + r)) (min slice turn.start.left) 0) plan_is
    ∙ ap (λ n. first_from (λ r. is_closed job.plan (n + r)) (min slice turn.start.left) 0) nodes_are
    ∙ ap (λ n. first_from (λ r. is_closed job.plan (job.nodes + r)) (min slice n) 0) same_left))
    turn.all in
    has_run slice ran job job.phase own.turn all

back_owed : (job : JobData) (ran : ℕ) (phase : Phase) (closed : Bool) (left : ℕ) → is_out phase ≡ true → owed_in (phase_after phase closed left) + 1 ≤ owed_in phase
back_owed job ran Waiting closed left out = absurd (cc)
back_owed job ran (Out slice) closed left out =
    cond_both closed Closed (cond (left == 0) Dry Waiting) (λ p. owed_in p + 1 ≤ 2) (λ _. omega arith) (λ _. cond_both (left == 0) Dry Waiting (λ p. owed_in p + 1 ≤ 2) (λ _. omega arith) (λ _. omega arith))
back_owed job ran (Leaving slice) closed left out = omega arith
back_owed job ran Dry closed left out = absurd (cc)
back_owed job ran Closed closed left out = absurd (cc)
back_owed job ran Cancelled closed left out = absurd (cc)

out_waits_not : (phase : Phase) → is_out phase ≡ true → is_waiting phase ≡ false
out_waits_not Waiting out = absurd (cc)
out_waits_not (Out slice) out = refl
out_waits_not (Leaving slice) out = refl
out_waits_not Dry out = refl
out_waits_not Closed out = refl
out_waits_not Cancelled out = refl

-- the book of a tenant whose turn came back after so many nodes: they are paid, and what the job does not keep is free
abbrev pub settled_book : ℕ → JobData → BookData → BookData
settled_book ran job b = after_free_up (job.left - ran - (back ran job).left) (after_spend ran b)

pub record IsGiving (w : World) (t s slice ran : ℕ) (account : Account) (m : Meaning) (all : TableData) : Type 0 where
  pub job : JobData
  pub found : find_row t s w.rows ≡ Some job
  pub own : IsOwn t slice ran m job
  pub after : all ≡ change_job t s job (back ran job) (table_of w)
  pub turns : all.waiting ≡ waiting_then t s false (is_waiting (back ran job).phase) w.waiting
  pub moves : IsMove w t all (record account { book = settled_book ran job account.book; used = account.used + 1 }) (Give s ran) (Replied (reply.Ran ran (line_of (back ran job))))
  pub room : owed all.rows + 1 ≤ owed w.rows
  pub spent : ran ≤ account.book.held
  pub ran_most : ran ≤ job.left
  pub left_most : (back ran job).left ≤ job.left - ran
  pub freed : job.left - ran - (back ran job).left ≤ account.book.held - ran

pub give_moves : (w : World) (t s slice ran capacity : ℕ) (account : Account) (m : Meaning) (all : TableData) → IsFarm w capacity → t < length w.config.tenants → account ≡ account_of w t
    → IsTurn slice ran m → IsBack (table_of w) t s slice ran m all → IsGiving w t s slice ran account m all
unfolding book held
give_moves w t s slice ran capacity account m all farm l is turn did =
    let a = account_in w t capacity account farm l is in
    let job : JobData = did.job in
    let new : JobData = back ran job in
    let may = own_run t slice ran m job turn did.own in
    let own = own_job w t s job did.found in
    let ran_is = turn_ran job job.phase ran may in
    let stands = after_back job.phase (is_closed job.plan (job.nodes + ran)) ran job.left in
    let most : job.left ≤ account.book.held = omega (arith, found_held s (view t w).jobs job own, ap (λ (b : BookData). b.held) a.book) in
    let spent : ran ≤ account.book.held = omega (arith, most, ran_is.1) in
    let left_most : new.left ≤ job.left - ran = stands.2 in
    let freed : job.left - ran - new.left ≤ account.book.held - ran = omega (arith, most, ran_is.1) in
    let whole = whole_in w t capacity account farm l is in
    let then : BookData = settled_book ran job account.book in
    let steps = give_steps (view t w) s ran job own may in
    let after : TableData = change_job t s job new (table_of w) in
    let moves : IsMove w t after (record account { book = then; used = account.used + 1 }) (Give s ran) (Replied (reply.Ran ran (line_of new))) =
    changed_moves w t s capacity account job new ran then (Give s ran) (Replied (reply.Ran ran (line_of new))) farm l is did.found refl steps (omega arith) refl
    (omega (arith, most, ran_is.1, left_most)) (omega (arith, whole, spent, freed)) tt in
    record {
      job = job;
      found = did.found;
      own = did.own;
      after = did.after;
      turns = ap (λ (d : TableData). d.waiting) did.after ∙ ap (λ (b : Bool). waiting_then t s b (is_waiting new.phase) w.waiting) (out_waits_not job.phase ran_is.0);
      moves = subst (λ (d : TableData). IsMove w t d (record account { book = then; used = account.used + 1 }) (Give s ran) (Replied (reply.Ran ran (line_of new)))) (sym did.after) moves;
      room = omega (arith, ap (λ (d : TableData). owed d.rows) did.after, owed_put t s job new w.rows did.found, back_owed job ran job.phase (is_closed job.plan (job.nodes + ran)) (job.left - ran) ran_is.0);
      spent = spent;
      ran_most = ran_is.1;
      left_most = left_most;
      freed = freed;
    }

-- the job that was changed is found
pub found_put : (t s : ℕ) (old new : JobData) (rows : List Row) → find_row t s rows ≡ Some old → new.seq ≡ old.seq → find_row t s (put_row t s new rows) ≡ Some new
found_put t s old new [] found named = absurd (cc)
found_put t s old new (row ∷ rows) found named = grind (arith, nat_tests, found_put t s old new rows)

own_told : (w : World) (t s : ℕ) (job : JobData) (line : Line) → option_map line_of (find_job s (view t w).jobs) ≡ Some line → find_row t s w.rows ≡ Some job → job.left ≡ line.left
unfolding line_of
own_told w t s job line is there =
    let one = told (view t w) s line is in
    let same : one.job ≡ job = same_job one.job job (find_row t s w.rows) (own_row w t s one.job one.found) there in
    omega (arith, ap (λ (x : Line). x.left) one.line_is, ap (λ (x : JobData). x.left) same)

line_left : (job : JobData) (line : Line) → line ≡ line_of job → line.left ≡ job.left
unfolding line_of
line_left job line is = ap (λ (x : Line). x.left) is

-- the same, told by what was told of the job before and after
pub record IsToldGiving (w : World) (t s slice ran : ℕ) (account : Account) (m : Meaning) (all : TableData) (before line : Line) : Type 0 where
  pub job : JobData
  pub found : find_row t s w.rows ≡ Some job
  pub own : IsOwn t slice ran m job
  pub turns : all.waiting ≡ waiting_then t s false (is_waiting (back ran job).phase) w.waiting
  pub moves : IsMove w t all (record account { book = after_free_up (before.left - ran - line.left) (after_spend ran account.book); used = account.used + 1 }) (Give s ran) (Replied (reply.Ran ran line))
  pub room : owed all.rows + 1 ≤ owed w.rows
  pub spent : ran ≤ account.book.held
  pub ran_most : ran ≤ before.left
  pub left_most : line.left ≤ before.left - ran
  pub freed : before.left - ran - line.left ≤ account.book.held - ran

pub give_told : (w : World) (t s slice ran capacity : ℕ) (account : Account) (m : Meaning) (all : TableData) (before line : Line) → IsFarm w capacity → t < length w.config.tenants → account ≡ account_of w t
    → IsTurn slice ran m → IsBack (table_of w) t s slice ran m all → option_map line_of (find_job s (view t w).jobs) ≡ Some before → ((job : JobData) → find_row t s all.rows ≡ Some job → line ≡ line_of job)
    → IsToldGiving w t s slice ran account m all before line
give_told w t s slice ran capacity account m all before line farm l is turn did told_before told_after =
    let it = give_moves w t s slice ran capacity account m all farm l is turn did in
    let new : JobData = back ran it.job in
    let line_is : line ≡ line_of new = told_after new (ap (λ (d : TableData). find_row t s d.rows) it.after ∙ found_put t s it.job new w.rows it.found refl) in
    let left : line.left ≡ new.left = line_left new line line_is in
    let had : it.job.left ≡ before.left = own_told w t s it.job before told_before it.found in
    let amount : it.job.left - ran - new.left ≡ before.left - ran - line.left = omega (arith, had, left) in
    record {
      job = it.job;
      found = it.found;
      own = it.own;
      turns = it.turns;
      moves = subst (λ (n : ℕ). IsMove w t all (record account { book = after_free_up n (after_spend ran account.book); used = account.used + 1 }) (Give s ran) (Replied (reply.Ran ran line))) amount
          (subst (λ (x : Line). IsMove w t all (record account { book = settled_book ran it.job account.book; used = account.used + 1 }) (Give s ran) (Replied (reply.Ran ran x))) (sym line_is) it.moves);
      room = it.room;
      spent = it.spent;
      ran_most = omega (arith, it.ran_most, had);
      left_most = omega (arith, it.left_most, had, left);
      freed = omega (arith, it.freed, had, left);
    }
