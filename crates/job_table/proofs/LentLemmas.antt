-- What a table is once a job of it has other work, or is in another phase.
use Rattle.std.proofs.Common.{◌≡◌, ℕ, Bool, true, false, cond, List, [], ◌∷◌, nat_eq, Option, Some, None, is_some, refl, sym, ap, ◌∙◌, subst, arith}
use Rattle.std.specs.Map.{lookup}
use Rattle.std.proofs.lemmas.Bool.{eqb-true}
use Rattle.std.proofs.lemmas.Bool.Decides.{nat_tests}
use Rattle.quanta_till.specs.Lease.{LeaseValue}
use Rattle.strategy.specs.Search.{Meaning}
use Rattle.job_table.specs.Table.{JobData, Row, TableData, is_key, is_row, is_waiting, is_out, find_row, put_row, waiting_then, change_job}
use Rattle.job_table.specs.Queue.{line_of, IsLinked}
use Rattle.job_table.specs.Kept.{counted, moved, whole, IsTable, IsChanging}
use Rattle.job_table.specs.Lent.{WorkData, with_work, in_phase, changed_if, change_found, IsLent, HasDrawn}
use Rattle.job_table.specs.declared.counts.Counts.{Counts}
use Rattle.job_table.specs.declared.phase.Phase.{Phase}
use Rattle.job_table.specs.declared.queue.Linked.{Linked}
use Rattle.job_table.specs.declared.queue.Queue.{Queue}
use Rattle.job_table.proofs.TableLemmas.{Recounts, same_table}
use Rattle.job_table.proofs.RowLemmas.{put_same, row_is}
use Rattle.job_table.proofs.WholeLemmas.{IsAfter, seen, changing, written, changed_whole}

-- a change of the job that is found, and of none
pub found_changes : (t s : ℕ) (change : JobData → JobData) (table : TableData) (job : JobData) → find_row t s table.rows ≡ Some job → change_found t s change table ≡ change_job t s job (change job) table
found_changes t s change table job found = ap (λ o. changed_if t s change o table) found

pub none_changes : (t s : ℕ) (change : JobData → JobData) (table : TableData) → find_row t s table.rows ≡ None → change_found t s change table ≡ table
none_changes t s change table none = ap (λ o. changed_if t s change o table) none

waiting_same : (t s : ℕ) (b : Bool) (keys : List (ℕ × ℕ)) → waiting_then t s b b keys ≡ keys
waiting_same t s true keys = refl
waiting_same t s false keys = refl

moved_same : (b : Bool) (counts : Counts) → moved b b counts ≡ counts
moved_same true counts = refl
moved_same false counts = refl

same_case : (t u : ℕ) (b : Bool) → nat_eq t u ≡ b → (f : ℕ → Counts) → f u ≡ cond b (f t) (f u)
same_case t u true e f = let same : t ≡ u = eqb-true t u e in ap f (sym same)
same_case t u false e f = refl

same_counts : (t : ℕ) (b : Bool) (counts : List (ℕ × Counts)) → Recounts t (moved b b (counted (lookup (nat_eq t) counts))) counts counts
same_counts t b counts u =
    same_case t u (nat_eq t u) refl (λ v. counted (lookup (nat_eq v) counts)) ∙ ap (λ c. cond (nat_eq t u) c (counted (lookup (nat_eq u) counts))) (sym (moved_same b (counted (lookup (nat_eq t) counts))))

-- the table once a job's work was changed behind the reference that was lent
pub lent_whole : {J K : Type 0} (t s : ℕ) (old : Linked J) (work : WorkData K) {es mid : List ((ℕ × ℕ) × Linked J)} {queue : Queue} {counts : List (ℕ × Counts)} → IsTable es counts queue → Some old ≡ lookup (is_key t s) es
    → ((u n : ℕ) → lookup (is_key u n) mid ≡ cond (is_key t s (u, n)) (Some (record old { job = with_work work old.job })) (lookup (is_key u n) es)) → IsAfter (change_found t s (with_work work) (whole es queue)) mid counts queue
lent_whole t s old work {es = es} {mid = mid} {queue = queue} {counts = counts} table there up =
    let p = old.job.phase in
    let of : IsChanging t s p p mid counts queue = changing old (with_work work old.job) table there up refl refl refl in
    let linked : IsLinked mid queue (waiting_then t s (is_waiting p) (is_waiting p) (line_of mid queue)) = subst (IsLinked mid queue) (sym (waiting_same t s (is_waiting p) (line_of mid queue))) (written of).linked in
    let after = changed_whole t s p p mid mid queue queue counts counts (is_out p) (is_out p) (is_waiting p) (is_waiting p) of refl refl refl refl (same_counts t (is_out p) counts) refl linked in
    let found : find_row t s (whole es queue).rows ≡ Some old.job = seen t s table refl there in
    record { table = after.table; is = after.is ∙ sym (found_changes t s (with_work work) (whole es queue) old.job found) }

-- the rows with a job as it is, and with one that changes twice
own_case : (t s : ℕ) (job : JobData) (row : Row) (rows later : List Row) (b : Bool) → is_row t s row ≡ b → cond b (Some row.job) (find_row t s rows) ≡ Some job → (find_row t s rows ≡ Some job → later ≡ rows)
    → cond b (record { tenant = t; job = job } ∷ rows) (row ∷ later) ≡ row ∷ rows
own_case t s job row rows later true e found rest = ap (λ r. r ∷ rows) (sym (row_is t s job row e found))
own_case t s job row rows later false e found rest = ap (λ rs. row ∷ rs) (rest found)

put_own : (t s : ℕ) (job : JobData) (rows : List Row) → find_row t s rows ≡ Some job → put_row t s job rows ≡ rows
put_own t s job [] found = refl
put_own t s job (row ∷ rows) found = own_case t s job row rows (put_row t s job rows) (is_row t s row) refl found (put_own t s job rows)

put_twice : (t s : ℕ) (mid then : JobData) (rows : List Row) → mid.seq ≡ s → put_row t s then (put_row t s mid rows) ≡ put_row t s then rows
put_twice t s mid then [] named = refl
put_twice t s mid then (row ∷ rows) named = grind (arith, nat_tests, put_twice t s mid then rows)

found_seq : (t s : ℕ) (job : JobData) (rows : List Row) → find_row t s rows ≡ Some job → job.seq ≡ s
found_seq t s job [] found = absurd (cc)
found_seq t s job (row ∷ rows) found = grind (arith, nat_tests, found_seq t s job rows)

-- work that is a job's own changes nothing
pub own_work : {J : Type 0} (t s : ℕ) (table : TableData) (work : WorkData J) → IsLent table.rows t s work → change_found t s (with_work work) table ≡ table
own_work t s table work it =
    let job = it.job in
    found_changes t s (with_work work) table job it.found ∙ ap (λ then. change_job t s job then table) it.lent
    ∙ same_table (put_row t s job table.rows) table.rows (waiting_then t s (is_waiting job.phase) (is_waiting job.phase) table.waiting) table.waiting (put_own t s job table.rows it.found) (waiting_same t s (is_waiting job.phase) table.waiting)

-- the job is still found once it has other work
pub still_found : {J : Type 0} (t s : ℕ) (table : TableData) (job : JobData) (work : WorkData J) → find_row t s table.rows ≡ Some job → find_row t s (change_found t s (with_work work) table).rows ≡ Some (with_work work job)
still_found t s table job work found =
    ap (λ (d : TableData). find_row t s d.rows) (found_changes t s (with_work work) table job found) ∙ put_same t s job (with_work work job) table.rows found (found_seq t s job table.rows found)

-- a job that has other work and then is in another phase has changed once
pub both_changed : {J : Type 0} (t s : ℕ) (table : TableData) (job : JobData) (work : WorkData J) (phase : Phase) → find_row t s table.rows ≡ Some job
    → change_found t s (in_phase phase) (change_found t s (with_work work) table) ≡ change_job t s job (in_phase phase (with_work work job)) table
both_changed t s table job work phase found =
    let mid = with_work work job in
    let then = in_phase phase mid in
    let seq : job.seq ≡ s = found_seq t s job table.rows found in
    let first : change_found t s (with_work work) table ≡ change_job t s job mid table = found_changes t s (with_work work) table job found in
    let there : find_row t s (put_row t s mid table.rows) ≡ Some mid = put_same t s job mid table.rows found seq in
    let b = is_waiting job.phase in
    ap (change_found t s (in_phase phase)) first ∙ found_changes t s (in_phase phase) (change_job t s job mid table) mid there
    ∙ same_table (put_row t s then (put_row t s mid table.rows)) (put_row t s then table.rows) (waiting_then t s b (is_waiting phase) (waiting_then t s b b table.waiting)) (waiting_then t s b (is_waiting phase) table.waiting)
    (put_twice t s mid then table.rows seq) (ap (waiting_then t s b (is_waiting phase)) (waiting_same t s b table.waiting))

-- a search that was drawn for is still with its job, as it was before
pub drawn_here : {J : Type 0} (meaning : J → Meaning) (lease : J → LeaseValue) (quanta : ℕ) (old new : Option J) → HasDrawn meaning lease quanta old new → (is_some new ≡ true) × (is_some old ≡ true)
drawn_here meaning lease quanta (Some old) (Some new) h = (refl, refl)
drawn_here meaning lease quanta (Some old) None h = absurd h
drawn_here meaning lease quanta None (Some new) h = absurd h
drawn_here meaning lease quanta None None h = absurd h

-- a search that is kept is with its job
pub kept_here : {J : Type 0} (keep : Bool) (search : J) → is_some (cond keep (Some search) None) ≡ keep
kept_here true search = refl
kept_here false search = refl
