-- What a table keeps as a job changes, comes or goes, in the words of its map, its counts and its queue.
use Rattle.std.proofs.Common.{◌≡◌, ℕ, ◌+◌, ◌^◌, ◌<◌, ◌≤◌, Bool, true, false, cond, List, length, filter, nat_eq, Some, None, IsSome, sym, ap, ◌∙◌, subst, arith}
use Rattle.std.specs.Map.{lookup}
use Rattle.job_table.specs.Table.{Row, JobData, TableData, is_key, is_waiting, is_out, find_row, put_row, drop_row, add_row, without, waiting_then, add_job, change_job, drop_job}
use Rattle.job_table.specs.Kept.{rows_of, counts_of, counted, moved, one_more, one_less, AreCounted, IsKept, IsHeld}
use Rattle.job_table.specs.declared.counts.Counts.{Counts}
use Rattle.job_table.proofs.OrderLemmas.{order_apart}
use Rattle.job_table.proofs.CountLemmas.{told, told_more, recounted, has_counts, put_jobs, drop_jobs, add_jobs}
use Rattle.job_table.proofs.MapLemmas.{Jobs, IsUpdate, named_find, named_update, rows_put, rows_drop, rows_add, rows_order}
use Rattle.job_table.proofs.KeptLemmas.{changed, added, dropped, has_room, then_out}

-- a table is its rows and those who wait
pub same_table : (rows all : List Row) (keys waiting : List (ℕ × ℕ)) → rows ≡ all → keys ≡ waiting → record { rows = rows; waiting = keys } ≡ let d : TableData = record { rows = all; waiting = waiting } in d
same_table rows all keys waiting r k = ap (λ rs. let d : TableData = record { rows = rs; waiting = keys } in d) r ∙ ap (λ ks. let d : TableData = record { rows = all; waiting = ks } in d) k

-- the table that a map and a queue are
abbrev pub table_of : Jobs → List (ℕ × ℕ) → TableData
table_of jobs waiting = record { rows = rows_of jobs; waiting = waiting }

-- what a job that is found in the map is in the table
pub record IsFound (t s : ℕ) (job : JobData) (jobs : Jobs) (counts : List (ℕ × Counts)) (waiting : List (ℕ × ℕ)) : Type 0 where
  pub found : find_row t s (rows_of jobs) ≡ Some job
  pub numbered : job.seq ≡ s
  pub there : IsSome (lookup (nat_eq t) counts)
  pub kept : 1 ≤ (counted (lookup (nat_eq t) counts)).kept
  pub least : is_out job.phase ≡ true → 1 ≤ (counted (lookup (nat_eq t) counts)).out
  pub most : is_out job.phase ≡ false → (counted (lookup (nat_eq t) counts)).out < (counted (lookup (nat_eq t) counts)).kept
  pub room : is_waiting job.phase ≡ false → length waiting < 2 ^ 63

pub found_in : (t s : ℕ) (job : JobData) (jobs : Jobs) (counts : List (ℕ × Counts)) (waiting : List (ℕ × ℕ)) → IsHeld jobs counts waiting → lookup (is_key t s) jobs ≡ Some job
    → IsFound t s job jobs counts waiting
found_in t s job jobs counts waiting held there =
    let found : find_row t s (rows_of jobs) ≡ Some job = named_find t s jobs held.named ∙ there in
    let tell = told t s job (rows_of jobs) found in
    let are : counted (lookup (nat_eq t) counts) ≡ counts_of t (rows_of jobs) = held.counted t in
    record {
      found = found;
      numbered = held.named t s job there;
      there = has_counts t s job counts (rows_of jobs) held.counted found;
      kept = omega (arith, ap (λ (c : Counts). c.kept) are, tell.some);
      least = λ e. omega (arith, ap (λ (c : Counts). c.out) are, tell.least e);
      most = λ e. omega (arith, ap (λ (c : Counts). c.kept) are, ap (λ (c : Counts). c.out) are, tell.most e);
      room = λ e. has_room t s job (table_of jobs waiting) held.kept found e;
    }

-- the counts of jobs
abbrev counts_by : List JobData → Counts
counts_by jobs = record { kept = length jobs; out = length (filter (λ (job : JobData). is_out job.phase) jobs) }

-- the counts say what they said, but for one tenant
abbrev pub Recounts : ℕ → Counts → List (ℕ × Counts) → List (ℕ × Counts) → Type 0
Recounts t new olds news = (u : ℕ) → counted (lookup (nat_eq u) news) ≡ cond (nat_eq t u) new (counted (lookup (nat_eq u) olds))

-- a table that is another one now, with these jobs and counts
pub record IsNow (after new : TableData) (jobs : Jobs) (counts : List (ℕ × Counts)) : Type 0 where
  pub held : IsHeld jobs counts new.waiting
  pub is : new ≡ after

pub change_in : (t s : ℕ) (job then : JobData) (jobs news : Jobs) (counts recounts : List (ℕ × Counts)) (waiting keys : List (ℕ × ℕ)) → IsHeld jobs counts waiting
    → lookup (is_key t s) jobs ≡ Some job → then.seq ≡ job.seq → IsUpdate t s (Some then) jobs news
    → Recounts t (moved (is_out job.phase) (is_out then.phase) (counted (lookup (nat_eq t) counts))) counts recounts
    → keys ≡ waiting_then t s (is_waiting job.phase) (is_waiting then.phase) waiting
    → IsNow (change_job t s job then (table_of jobs waiting)) (table_of news keys) news recounts
change_in t s job then jobs news counts recounts waiting keys held there seq up count queue =
    let it = found_in t s job jobs counts waiting held there in
    let rows = rows_of jobs in
    let named : then.seq ≡ s = seq ∙ it.numbered in
    let rows_are : rows_of news ≡ put_row t s then rows = rows_put t s job then jobs news held.named there named up in
    let after : table_of news keys ≡ change_job t s job then (table_of jobs waiting) =
    same_table (rows_of news) (put_row t s then rows) keys (waiting_then t s (is_waiting job.phase) (is_waiting then.phase) waiting) rows_are queue in
    let tell = told t s job rows it.found in
    let c = counted (lookup (nat_eq t) counts) in
    let told_new : moved (is_out job.phase) (is_out then.phase) c ≡ counts_of t (put_row t s then rows) = ap (moved (is_out job.phase) (is_out then.phase)) (held.counted t) ∙ sym (tell.put then) in
    let counts_are : AreCounted recounts (put_row t s then rows) =
    recounted t (moved (is_out job.phase) (is_out then.phase) c) counts recounts rows (put_row t s then rows) held.counted told_new
    (λ u e. ap (λ jobs. counts_by jobs) (put_jobs u t s then rows e)) count in
    record {
      held = record {
        named = named_update t s (Some then) jobs news held.named (λ j is. let same : j ≡ then = cc in ap (λ (j : JobData). j.seq) same ∙ named) up;
        counted = subst (AreCounted recounts) (sym rows_are) counts_are;
        kept = subst IsKept (sym after) (changed t s job then (table_of jobs waiting) held.kept it.found named);
      };
      is = after;
    }

pub drop_in : (t s : ℕ) (job : JobData) (jobs news : Jobs) (counts recounts : List (ℕ × Counts)) (waiting keys : List (ℕ × ℕ)) → IsHeld jobs counts waiting
    → lookup (is_key t s) jobs ≡ Some job → IsUpdate t s None jobs news → Recounts t (one_less (is_out job.phase) (counted (lookup (nat_eq t) counts))) counts recounts
    → keys ≡ waiting_then t s (is_waiting job.phase) false waiting → IsNow (drop_job t s (table_of jobs waiting)) (table_of news keys) news recounts
drop_in t s job jobs news counts recounts waiting keys held there up count queue =
    let it = found_in t s job jobs counts waiting held there in
    let rows = rows_of jobs in
    let rows_are : rows_of news ≡ drop_row t s rows = rows_drop t s jobs news held.named up in
    let out : keys ≡ without t s waiting = queue ∙ then_out t s job (table_of jobs waiting) held.kept it.found in
    let after : table_of news keys ≡ drop_job t s (table_of jobs waiting) = same_table (rows_of news) (drop_row t s rows) keys (without t s waiting) rows_are out in
    let tell = told t s job rows it.found in
    let c = counted (lookup (nat_eq t) counts) in
    let told_new : one_less (is_out job.phase) c ≡ counts_of t (drop_row t s rows) = ap (one_less (is_out job.phase)) (held.counted t) ∙ sym tell.drop in
    let counts_are : AreCounted recounts (drop_row t s rows) =
    recounted t (one_less (is_out job.phase) c) counts recounts rows (drop_row t s rows) held.counted told_new (λ u e. ap (λ jobs. counts_by jobs) (drop_jobs u t s rows e)) count in
    record {
      held = record {
        named = named_update t s None jobs news held.named (λ j is. absurd (cc)) up;
        counted = subst (AreCounted recounts) (sym rows_are) counts_are;
        kept = subst IsKept (sym after) (dropped t s job (table_of jobs waiting) held.kept (order_apart rows (rows_order jobs)) it.found);
      };
      is = after;
    }

pub add_in : (t : ℕ) (job : JobData) (jobs news : Jobs) (counts recounts : List (ℕ × Counts)) (waiting keys : List (ℕ × ℕ)) → IsHeld jobs counts waiting
    → find_row t job.seq (rows_of jobs) ≡ None → length (rows_of jobs) + 1 ≤ 2 ^ 63 → IsUpdate t job.seq (Some job) jobs news
    → Recounts t (one_more (is_out job.phase) (counted (lookup (nat_eq t) counts))) counts recounts → keys ≡ waiting_then t job.seq false (is_waiting job.phase) waiting
    → IsNow (add_job t job (table_of jobs waiting)) (table_of news keys) news recounts
add_in t job jobs news counts recounts waiting keys held none room up count queue =
    let rows = rows_of jobs in
    let row : Row = record { tenant = t; job = job } in
    let rows_are : rows_of news ≡ add_row row rows = rows_add t job jobs news held.named none up in
    let after : table_of news keys ≡ add_job t job (table_of jobs waiting) = same_table (rows_of news) (add_row row rows) keys (waiting_then t job.seq false (is_waiting job.phase) waiting) rows_are queue in
    let c = counted (lookup (nat_eq t) counts) in
    let told_new : one_more (is_out job.phase) c ≡ counts_of t (add_row row rows) = ap (one_more (is_out job.phase)) (held.counted t) ∙ sym (told_more row rows) in
    let counts_are : AreCounted recounts (add_row row rows) =
    recounted t (one_more (is_out job.phase) c) counts recounts rows (add_row row rows) held.counted told_new (λ u e. ap (λ jobs. counts_by jobs) (add_jobs u row rows e)) count in
    record {
      held = record {
        named = named_update t job.seq (Some job) jobs news held.named (λ j is. let same : j ≡ job = cc in ap (λ (j : JobData). j.seq) same) up;
        counted = subst (AreCounted recounts) (sym rows_are) counts_are;
        kept = subst IsKept (sym after) (added t job (table_of jobs waiting) held.kept none room);
      };
      is = after;
    }

-- the same table, with the same counts kept elsewhere
pub begun : (jobs : Jobs) (counts recounts : List (ℕ × Counts)) (waiting : List (ℕ × ℕ)) → IsHeld jobs counts waiting → ((u : ℕ) → counted (lookup (nat_eq u) recounts) ≡ counted (lookup (nat_eq u) counts))
    → IsHeld jobs recounts waiting
begun jobs counts recounts waiting held count = record { named = held.named; counted = λ u. count u ∙ held.counted u; kept = held.kept }

-- counts that are told by other names
pub recounts_as : (t : ℕ) (a b was is : Bool) (olds news : List (ℕ × Counts)) → a ≡ was → b ≡ is → Recounts t (moved a b (counted (lookup (nat_eq t) olds))) olds news
    → Recounts t (moved was is (counted (lookup (nat_eq t) olds))) olds news
recounts_as t a b was is olds news p q told =
    subst (λ x. Recounts t (moved was x (counted (lookup (nat_eq t) olds))) olds news) q (subst (λ x. Recounts t (moved x b (counted (lookup (nat_eq t) olds))) olds news) p told)
