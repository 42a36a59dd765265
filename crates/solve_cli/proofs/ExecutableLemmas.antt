-- Executable modes: tests of all of them, and that a project with an activity that has none is infeasible.
use Rattle.std.proofs.Common.{◌≡◌, ℕ, zero, suc, ◌+◌, ◌<◌, ◌≤◌, Bool, true, false, not, ◌&&◌, ◌||◌, ◌==◌, nat_le, refl, sym, ap, ◌∙◌, arith, ⊎_elim, ◌⊎◌, inl, inr}
use Rattle.std.proofs.lemmas.Bool.{false≢true}
use Rattle.mrcpsp.specs.Numbers.{all_below}
use Rattle.mrcpsp.specs.Project.{ProjectData, size, mode_count, duration, request, capacity, renewables}
use Rattle.mrcpsp.specs.Schedule.{ScheduleData, IsFeasible, IsInfeasible, mode_of}
use Rattle.mrcpsp.specs.Placed.{is_executable}
use Rattle.mrcpsp.proofs.NumbersLemmas.{all_below-at, all_below-from}
use Rattle.price_search.proofs.FittingLemmas.{feasible_fit}
use Rattle.solve_cli.specs.Improved.{can_run, can_all_run}

is_false : (b : Bool) → (b ≡ true → ⊥) → b ≡ false
is_false true f = absurd (f refl)
is_false false f = refl

-- a test that fails once fails for all
not_all : (test : ℕ → Bool) (n k : ℕ) → k < n → test k ≡ false → all_below test n ≡ false
not_all test n k h e = is_false (all_below test n) (λ all. false≢true (sym e ∙ all_below-at test n k all h))

pub run_found : (p : ProjectData) (j m : ℕ) → m < mode_count p j → is_executable p j m ≡ true → true ≡ can_run p j
run_found p j m h e = sym (ap not (not_all (λ k. not (is_executable p j k)) (mode_count p j) m h (ap not e)))

pub none_found : (p : ProjectData) (j : ℕ) → all_below (λ m. not (is_executable p j m)) (mode_count p j) ≡ true → false ≡ can_run p j
none_found p j e = sym (ap not e)

below_or_at : (k m : ℕ) → k < m + 1 → (k < m) ⊎ (k ≡ m)
below_or_at k m h = grind arith

pub next_unexecutable : (p : ProjectData) (j m : ℕ) → all_below (λ k. not (is_executable p j k)) m ≡ true → is_executable p j m ≡ false → all_below (λ k. not (is_executable p j k)) (m + 1) ≡ true
next_unexecutable p j m all e = all_below-from (λ k. not (is_executable p j k)) (m + 1) (λ k h.
    ⊎_elim (λ (low : k < m). all_below-at (λ k. not (is_executable p j k)) m k all low) (λ (at : k ≡ m). ap (λ i. not (is_executable p j i)) at ∙ ap not e) (below_or_at k m h))

pub ruleset run_rules = (run_found, none_found, next_unexecutable)

pub stuck_found : (p : ProjectData) (j : ℕ) → j < size p → can_run p j ≡ false → false ≡ can_all_run p
stuck_found p j h e = sym (not_all (can_run p) (size p) j h e)

pub next_runs : (p : ProjectData) (j : ℕ) → all_below (can_run p) j ≡ true → can_run p j ≡ true → all_below (can_run p) (j + 1) ≡ true
next_runs p j all e = all_below-from (can_run p) (j + 1) (λ k h.
    ⊎_elim (λ (low : k < j). all_below-at (can_run p) j k all low) (λ (at : k ≡ j). ap (can_run p) at ∙ e) (below_or_at k j h))

pub all_found : (p : ProjectData) → all_below (can_run p) (size p) ≡ true → true ≡ can_all_run p
all_found p e = sym e

pub ruleset all_run_rules = (stuck_found, next_runs, all_found)

zero_or_more : (n : ℕ) → (n ≡ 0) ⊎ (0 < n)
zero_or_more zero = inl refl
zero_or_more (suc n) = inr (omega arith)

or_true : (b : Bool) → (b || true) ≡ true
or_true true = refl
or_true false = refl

-- the modes of a feasible schedule are executable
executable_of : (p : ProjectData) (s : ScheduleData) (j : ℕ) → IsFeasible p s → j < size p → is_executable p j (mode_of s j) ≡ true
unfolding is_executable
executable_of p s j feasible h =
    let fits = feasible_fit p s feasible in
    ⊎_elim
    (λ (none : duration p j (mode_of s j) ≡ 0). rw none refl)
    (λ (some : 0 < duration p j (mode_of s j)).
    let all = all_below-from (λ r. nat_le (request p j (mode_of s j) r) (capacity p r)) (renewables p) (λ r inside. let le = fits.executable j r h inside some in grind arith) in
    rw all (or_true (duration p j (mode_of s j) == 0)))
    (zero_or_more (duration p j (mode_of s j)))

-- without an executable mode of each activity no schedule is feasible
pub stuck_is_infeasible : (p : ProjectData) → can_all_run p ≡ false → IsInfeasible p
stuck_is_infeasible p e s feasible =
    false≢true (sym e ∙ all_below-from (can_run p) (size p) (λ j h.
    let m = mode_of s j in
    let exists = feasible.modes_exist j h in
    sym (run_found p j m exists.1 (executable_of p s j feasible h))))
