-- What a table keeps of itself as jobs come, change and go.
use Rattle.std.proofs.Common.{◌≡◌, ℕ, ◌+◌, ◌^◌, ◌<◌, ◌≤◌, Bool, true, false, List, length, Some, None, refl, sym, ap, ◌∙◌, arith}
use Rattle.std.proofs.lemmas.Bool.Decides.{nat_tests}
use Rattle.job_table.specs.Table.{Row, JobData, TableData, is_key, is_waiting, does_wait, find_row, without, waiting_then, add_job, change_job, drop_job, AreApart, AreWaiting}
use Rattle.job_table.specs.Kept.{IsKept}
use Rattle.job_table.proofs.RowLemmas.{one_if, count_rows, put_same, put_other, put_length, put_count, drop_same, drop_other, drop_length, drop_count, add_same, add_other, add_length, add_count, found_count, most_rows}
use Rattle.job_table.proofs.QueueLemmas.{times, at_key, key_sym, out_same, out_other, out_length, out_none, then_same, then_other, then_length}

-- those who wait, where that is so of one key and nothing has changed for the others
at_each : (t s : ℕ) (old new : TableData) → AreWaiting old → times t s new.waiting ≡ one_if (does_wait (find_row t s new.rows))
    → ((u n : ℕ) → is_key u n (t, s) ≡ false → times u n new.waiting ≡ times u n old.waiting) → ((u n : ℕ) → is_key u n (t, s) ≡ false → find_row u n new.rows ≡ find_row u n old.rows)
    → AreWaiting new
at_each t s old new before own keys rows u n = at_key t s u n (is_key t s (u, n)) refl (λ v m. times v m new.waiting ≡ one_if (does_wait (find_row v m new.rows))) own
    (λ e. let other = key_sym u n t s ∙ e in keys u n other ∙ before u n ∙ ap (λ f. one_if (does_wait f)) (sym (rows u n other)))

abbrev waits : Row → Bool
waits row = is_waiting row.job.phase

pub changed : (t s : ℕ) (job then : JobData) (table : TableData) → IsKept table → find_row t s table.rows ≡ Some job → then.seq ≡ s → IsKept (change_job t s job then table)
unfolding count_rows
changed t s job then table kept found named =
    let was = is_waiting job.phase in
    let is = is_waiting then.phase in
    let new = change_job t s job then table in
    let now : times t s table.waiting ≡ one_if was = kept.waiting t s ∙ ap (λ f. one_if (does_wait f)) found in
    let own : times t s new.waiting ≡ one_if (does_wait (find_row t s new.rows)) = then_same t s was is table.waiting now ∙ ap (λ f. one_if (does_wait f)) (sym (put_same t s job then table.rows found named)) in
    record {
      waiting = at_each t s table new kept.waiting own (λ u n e. then_other t s u n was is table.waiting e) (λ u n e. put_other t s u n then table.rows e named);
      count = omega (arith, kept.count, then_length t s was is table.waiting now, put_count waits t s job then table.rows found);
      few = omega (arith, kept.few, put_length t s then table.rows);
    }

pub added : (t : ℕ) (job : JobData) (table : TableData) → IsKept table → find_row t job.seq table.rows ≡ None → length table.rows + 1 ≤ 2 ^ 63 → IsKept (add_job t job table)
unfolding count_rows
added t job table kept none room =
    let is = is_waiting job.phase in
    let new = add_job t job table in
    let row : Row = record { tenant = t; job = job } in
    let now : times t job.seq table.waiting ≡ 0 = kept.waiting t job.seq ∙ ap (λ f. one_if (does_wait f)) none in
    let own : times t job.seq new.waiting ≡ one_if (does_wait (find_row t job.seq new.rows)) = then_same t job.seq false is table.waiting now ∙ ap (λ f. one_if (does_wait f)) (sym (add_same row table.rows none)) in
    record {
      waiting = at_each t job.seq table new kept.waiting own (λ u n e. then_other t job.seq u n false is table.waiting e) (λ u n e. add_other u n row table.rows (grind (arith, nat_tests)));
      count = omega (arith, kept.count, then_length t job.seq false is table.waiting now, add_count waits row table.rows);
      few = omega (arith, room, add_length row table.rows);
    }

out_any : (t s : ℕ) (b : Bool) (keys : List (ℕ × ℕ)) → times t s keys ≡ one_if b → (times t s (without t s keys) ≡ 0) × (length (without t s keys) + one_if b ≡ length keys)
out_any t s true keys now = (out_same t s keys now, out_length t s keys now)
out_any t s false keys now =
    let same : without t s keys ≡ keys = out_none t s keys now in
    (ap (times t s) same ∙ now, omega (arith, ap length same))

pub dropped : (t s : ℕ) (job : JobData) (table : TableData) → IsKept table → AreApart table.rows → find_row t s table.rows ≡ Some job → IsKept (drop_job t s table)
unfolding count_rows
dropped t s job table kept apart found =
    let new = drop_job t s table in
    let now : times t s table.waiting ≡ one_if (is_waiting job.phase) = kept.waiting t s ∙ ap (λ f. one_if (does_wait f)) found in
    let out = out_any t s (is_waiting job.phase) table.waiting now in
    let own : times t s new.waiting ≡ one_if (does_wait (find_row t s new.rows)) = out.0 ∙ ap (λ f. one_if (does_wait f)) (sym (drop_same t s table.rows apart)) in
    record {
      waiting = at_each t s table new kept.waiting own (λ u n e. out_other t s u n table.waiting e) (λ u n e. drop_other t s u n table.rows e);
      count = omega (arith, kept.count, out.1, drop_count waits t s job table.rows found);
      few = omega (arith, kept.few, drop_length t s job table.rows found);
    }

-- nothing is dropped where nothing is found
pub not_known : (t s : ℕ) (table : TableData) → IsKept table → find_row t s table.rows ≡ None → without t s table.waiting ≡ table.waiting
not_known t s table kept none = out_none t s table.waiting (kept.waiting t s ∙ ap (λ f. one_if (does_wait f)) none)

-- one more that waits can be counted
pub has_room : (t s : ℕ) (job : JobData) (table : TableData) → IsKept table → find_row t s table.rows ≡ Some job → is_waiting job.phase ≡ false → length table.waiting < 2 ^ 63
unfolding count_rows
has_room t s job table kept found not = omega (arith, kept.count, kept.few, found_count waits t s job table.rows found not)

pub most_kept : (table : TableData) → IsKept table → length table.waiting ≤ length table.rows
unfolding count_rows
most_kept table kept = omega (arith, kept.count, most_rows waits table.rows)

-- one that is gone waits no longer
out_then : (t s : ℕ) (was : Bool) (keys : List (ℕ × ℕ)) → times t s keys ≡ one_if was → waiting_then t s was false keys ≡ without t s keys
out_then t s true keys now = refl
out_then t s false keys now = sym (out_none t s keys now)

pub then_out : (t s : ℕ) (job : JobData) (table : TableData) → IsKept table → find_row t s table.rows ≡ Some job → waiting_then t s (is_waiting job.phase) false table.waiting ≡ without t s table.waiting
then_out t s job table kept found = out_then t s (is_waiting job.phase) table.waiting (kept.waiting t s ∙ ap (λ f. one_if (does_wait f)) found)
