-- Each of those who wait is found and waits, and each job that waits stands among them.
use Rattle.std.proofs.Common.{◌≡◌, ℕ, zero, suc, ◌==◌, ◌<◌, Bool, true, false, List, [], ◌∷◌, slice_get, Option, Some, None, refl, sym, ap, ◌∙◌, arith}
use Rattle.std.proofs.lemmas.Bool.{and_parts, eqb-true}
use Rattle.std.proofs.lemmas.Bool.Decides.{nat_tests}
use Rattle.job_table.specs.Table.{Row, JobData, TableData, is_key, is_waiting, does_wait, find_row, AreWaiting}
use Rattle.job_table.specs.declared.phase.Phase.{Phase}
use Rattle.job_table.specs.declared.phase.Phase.TheVariants.{Waiting, Out, Leaving, Dry, Closed, Cancelled}
use Rattle.job_table.proofs.RowLemmas.{one_if}
use Rattle.job_table.proofs.QueueLemmas.{times, times_first}

-- the tenant's job of that number waits
pub record DoesWait (t s : ℕ) (rows : List Row) : Type 0 where
  pub job : JobData
  pub found : find_row t s rows ≡ Some job
  pub waits : job.phase ≡ Waiting

waits : (phase : Phase) → is_waiting phase ≡ true → phase ≡ Waiting
waits Waiting e = refl
waits (Out slice) e = cc
waits (Leaving slice) e = cc
waits Dry e = cc
waits Closed e = cc
waits Cancelled e = cc

-- the tenant and the number in a key
tenant_in : Option (ℕ × ℕ) → ℕ
tenant_in None = 0
tenant_in (Some k) = k.0

seq_in : Option (ℕ × ℕ) → ℕ
seq_in None = 0
seq_in (Some k) = k.1

-- a key that stands at a place stands there at least once
pub stands : (keys : List (ℕ × ℕ)) (i t s : ℕ) → slice_get keys i ≡ Some (t, s) → 0 < times t s keys
unfolding tenant_in seq_in
stands [] i t s here = absurd (cc)
stands (key ∷ keys) zero t s here =
    let t_is : key.0 ≡ t = ap tenant_in here in
    let s_is : key.1 ≡ s = ap seq_in here in
    let is : is_key t s key ≡ true = grind (arith, nat_tests) in
    omega (arith, times_first t s key keys true is)
stands (key ∷ keys) (suc i) t s here = omega (arith, stands keys i t s here, times_first t s key keys (is_key t s key) refl)

is_one : (b : Bool) → 0 < one_if b → b ≡ true
is_one true some = refl
is_one false some = absurd (omega (arith, some))

found_waiting : (t s : ℕ) (rows : List Row) (o : Option JobData) → find_row t s rows ≡ o → 0 < one_if (does_wait o) → DoesWait t s rows
found_waiting t s rows None found some = absurd (omega (arith, some))
found_waiting t s rows (Some job) found some = record { job = job; found = found; waits = waits job.phase (is_one (is_waiting job.phase) some) }

pub waiting_found : (table : TableData) → AreWaiting table → (i t s : ℕ) → slice_get table.waiting i ≡ Some (t, s) → DoesWait t s table.rows
waiting_found table are i t s here = found_waiting t s table.rows (find_row t s table.rows) refl (omega (arith, are t s, stands table.waiting i t s here))

-- where a key stands
pub record StandsAt (t s : ℕ) (keys : List (ℕ × ℕ)) : Type 0 where
  pub at : ℕ
  pub here : slice_get keys at ≡ Some (t, s)

key_at : (t s : ℕ) (key : ℕ × ℕ) (keys : List (ℕ × ℕ)) (b : Bool) → is_key t s key ≡ b → (0 < times t s keys → StandsAt t s keys) → 0 < times t s (key ∷ keys) → StandsAt t s (key ∷ keys)
key_at t s key keys true e later some =
    let parts = and_parts (t == key.0) (s == key.1) e in
    let t_is : key.0 ≡ t = sym (eqb-true t key.0 parts.0) in
    let s_is : key.1 ≡ s = sym (eqb-true s key.1 parts.1) in
    record { at = 0; here = ap (λ n. Some (n, key.1)) t_is ∙ ap (λ n. Some (t, n)) s_is }
key_at t s key keys false e later some =
    let it = later (omega (arith, some, times_first t s key keys false e)) in
    record { at = suc it.at; here = it.here }

stand_at : (t s : ℕ) (keys : List (ℕ × ℕ)) → 0 < times t s keys → StandsAt t s keys
stand_at t s [] some = absurd (omega (arith, some))
stand_at t s (key ∷ keys) some = key_at t s key keys (is_key t s key) refl (stand_at t s keys) some

pub waiting_at : (table : TableData) → AreWaiting table → (t s : ℕ) (job : JobData) → find_row t s table.rows ≡ Some job → is_waiting job.phase ≡ true → StandsAt t s table.waiting
waiting_at table are t s job found waits = stand_at t s table.waiting (omega (arith, are t s, ap (λ o. one_if (does_wait o)) found, ap one_if waits))
