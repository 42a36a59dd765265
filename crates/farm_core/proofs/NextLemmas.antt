-- Which job's turn is next.
use Rattle.std.proofs.Common.{◌≡◌, ℕ, zero, suc, ◌+◌, ◌<◌, ◌≤◌, ◌==◌, true, false, Option, Some, None, List, [], ◌∷◌, length, sym, ap, ◌∙◌, subst, arith, inr}
use Rattle.std.specs.Prelude.{slice_get}
use Rattle.std.proofs.lemmas.Bool.{cond_both, eqb-true, and_parts}
use borrow.Author.Count.{below_more}
use Rattle.job_table.specs.Table.{Row, JobData, is_row, is_waiting, find_row, behind, AreWaiting}
use Rattle.job_table.proofs.WaitingLemmas.{waiting_found, waiting_at}
use Rattle.job_table.proofs.WholeLemmas.{next_at, once_waiting}
use Rattle.farm_core.specs.Step.{is_slice, has_room}
use Rattle.farm_core.specs.World.{World, table_of, view}
use Rattle.farm_core.specs.Farm.{IsFarm, AreOf, ArePassed, IsNext}
use Rattle.farm_core.specs.Turn.{IsReady, IsIdle, IsFirstReady}
use Rattle.farm_core.proofs.ChangeLemmas.{own_job}
use Rattle.farm_core.proofs.CommandLemmas.{own_row}
use Rattle.farm_core.proofs.PassedLemmas.{passed_at, at_passed}

-- what is found is of a tenant
found_known : (n t s : ℕ) (rows : List Row) (job : JobData) → AreOf n rows → find_row t s rows ≡ Some job → t < n
found_known n t s [] job all found = absurd (cc)
found_known n t s (row ∷ rows) job all found =
    cond_both (is_row t s row) (Some row.job) (find_row t s rows) (λ (o : Option JobData). o ≡ Some job → t < n)
    (λ is _. omega (arith, all.0, eqb-true row.tenant t (and_parts (row.tenant == t) (row.job.seq == s) is).0)) (λ _ h. found_known n t s rows job all.1 h) found

-- each of those who wait is of a tenant
pub key_known : (w : World) (capacity i t s : ℕ) → IsFarm w capacity → AreWaiting (table_of w) → slice_get w.waiting i ≡ Some (t, s) → t < length w.config.tenants
key_known w capacity i t s farm are here =
    let it = waiting_found (table_of w) are i t s here in
    omega (arith, farm.count, found_known (length w.numbers) t s w.rows it.job farm.whose it.found)

-- a waiting key whose tenant has entries for a turn
pub ready_at : (w : World) (capacity i t s slice : ℕ) → IsFarm w capacity → AreWaiting (table_of w) → slice_get w.waiting i ≡ Some (t, s) → is_slice slice ≡ true → has_room 2 (view t w) ≡ true → IsReady w t s slice
ready_at w capacity i t s slice farm are here slice_is room =
    let it = waiting_found (table_of w) are i t s here in
    record {
      job = it.job;
      known = key_known w capacity i t s farm are here;
      found = own_job w t s it.job it.found;
      waits = ap is_waiting it.waits;
      slice_is = slice_is;
      room = room;
    }

-- where none of those who wait has, there is no turn
pub idle_of : (w : World) (slice : ℕ) → AreWaiting (table_of w) → ((i t s : ℕ) → slice_get w.waiting i ≡ Some (t, s) → has_room 2 (view t w) ≡ false) → IsIdle w slice
idle_of w slice are none = inr (λ t s job found waits. let it = waiting_at (table_of w) are t s job (own_row w t s job found) waits in none it.at t s it.here)

-- what is found lies before the first place where nothing is, and before the end
pub found_before : {A : Type 0} (xs : List A) (i j : ℕ) (x : A) → slice_get xs i ≡ None → slice_get xs j ≡ Some x → j < i
found_before [] i j x none some = absurd (cc)
found_before (y ∷ ys) zero j x none some = absurd (cc)
found_before (y ∷ ys) (suc i) zero x none some = omega arith
found_before (y ∷ ys) (suc i) (suc j) x none some = omega (arith, found_before ys i j x none some)

pub found_within : {A : Type 0} (xs : List A) (j : ℕ) (x : A) → slice_get xs j ≡ Some x → j < length xs
found_within [] j x some = absurd (cc)
found_within (y ∷ ys) zero x some = omega arith
found_within (y ∷ ys) (suc j) x some = omega (arith, found_within ys j x some)

-- ---- the walk

abbrev tenant_in : Option (ℕ × ℕ) → ℕ
tenant_in None = 0
tenant_in (Some key) = key.0

-- a place has one key
same_tenant : (o : Option (ℕ × ℕ)) (t s u n : ℕ) → o ≡ Some (u, n) → o ≡ Some (t, s) → u ≡ t
same_tenant o t s u n p q = ap tenant_in (sym p ∙ q)

-- where none waits at that place, or it lies past all who wait, there is no turn
pub idle_past : (w : World) (slice count : ℕ) → AreWaiting (table_of w) → IsNext w count None → IsIdle w slice
idle_past w slice count are it = idle_of w slice are (λ j t s here. it.before j t s (found_before w.waiting it.at j (t, s) (sym it.here) here) here)

pub idle_all : (w : World) (slice count : ℕ) (next : Option (ℕ × ℕ)) → AreWaiting (table_of w) → IsNext w count next → length w.waiting ≤ count → IsIdle w slice
idle_all w slice count next are it most = idle_of w slice are (λ j t s here. it.before j t s (omega (arith, found_within w.waiting j (t, s) here, it.least, most)) here)

-- one whose tenant has entries for a turn is the first of all,
pub first_ready : (w : World) (capacity count t s slice : ℕ) → IsFarm w capacity → AreWaiting (table_of w) → IsNext w count (Some (t, s)) → is_slice slice ≡ true → has_room 2 (view t w) ≡ true
    → IsFirstReady w t s slice
first_ready w capacity count t s slice farm are it slice_is room =
    record { ready = ready_at w capacity it.at t s slice farm are (sym it.here) slice_is room; each = are; at = it.at; here = sym it.here; before = it.before }

-- and any other is passed
and_here : (w : World) (at t s : ℕ) → slice_get w.waiting at ≡ Some (t, s) → has_room 2 (view t w) ≡ false
    → ((j u n : ℕ) → j < at → slice_get w.waiting j ≡ Some (u, n) → has_room 2 (view u w) ≡ false)
    → (j u n : ℕ) → j < at + 1 → slice_get w.waiting j ≡ Some (u, n) → has_room 2 (view u w) ≡ false
and_here w at t s here none before j u n l there = below_more (λ j. (u n : ℕ) → slice_get w.waiting j ≡ Some (u, n) → has_room 2 (view u w) ≡ false) at (λ j lt u n. before j u n lt)
    (λ u n is. let same : t ≡ u = same_tenant (slice_get w.waiting at) u n t s here is in subst (λ v. has_room 2 (view v w) ≡ false) same none) j l u n there

pub next_passed : (w : World) (count t s : ℕ) → IsNext w count (Some (t, s)) → has_room 2 (view t w) ≡ false → ArePassed w (Some (t, s))
next_passed w count t s it none = at_passed w (t, s) w.waiting it.at (sym it.here) (λ j u n l is. and_here w it.at t s (sym it.here) none it.before j u n l is)

pub next_behind : (w : World) (count t s : ℕ) (next : Option (ℕ × ℕ)) → AreWaiting (table_of w) → IsNext w count (Some (t, s)) → has_room 2 (view t w) ≡ false → next ≡ behind t s w.waiting
    → IsNext w (count + 1) next
next_behind w count t s next are it none is =
    record {
      at = it.at + 1;
      least = omega (arith, it.least);
      here = is ∙ next_at w.waiting it.at t s (once_waiting (table_of w) are) (sym it.here);
      before = λ j u n l there. and_here w it.at t s (sym it.here) none it.before j u n l there;
    }

-- where the walk begins: behind the last that is passed, or at the first
pub behind_passed : (w : World) (t s : ℕ) (next : Option (ℕ × ℕ)) → AreWaiting (table_of w) → ArePassed w (Some (t, s)) → next ≡ behind t s w.waiting → IsNext w 0 next
behind_passed w t s next are it is =
    let one = passed_at w (t, s) w.waiting it in
    record { at = one.at + 1; least = omega arith; here = is ∙ next_at w.waiting one.at t s (once_waiting (table_of w) are) one.here; before = one.before }

pub at_first : (w : World) (next : Option (ℕ × ℕ)) → next ≡ slice_get w.waiting 0 → IsNext w 0 next
at_first w next is = record { at = 0; least = omega arith; here = is; before = λ j u n l there. absurd (omega (arith, l)) }
