-- Activities that run one after the other.
use Rattle.std.proofs.Common.{◌≡◌, ℕ, zero, suc, ◌+◌, ◌<◌, ◌≤◌, List, [], ◌∷◌, length, get_or, arith, refl, ap, ⊎_elim}
use Rattle.std.proofs.lemmas.Bool.{cases_lt}
use Rattle.std.proofs.lemmas.List.FromFn.{length-map-range_with_len, get_or-map-range_with_len}
use Rattle.mrcpsp.specs.Numbers.{sum_below}
use Rattle.mrcpsp.specs.Project.{ProjectData, ActivityData, ModeData, no_activity, no_mode, size, renewables, modes, mode_count, duration, request, capacity, horizon, longest}
use Rattle.mrcpsp.specs.Limits.{IsProject}
use Rattle.mrcpsp.specs.Schedule.{ScheduleData, HasMode, IsFeasible, mode_of, start_of, finish, load, use_of, consumed, makespan}
use Rattle.mrcpsp.proofs.LimitLemmas.{kept}
use Rattle.mrcpsp.proofs.NumbersLemmas.{sum_below-same, at-le-sum_below, max_below-le}
use Rattle.mrcpsp.proofs.ProjectLemmas.{precedes-rising, load-before, load-over, load-running, load-le-request}
use Rattle.price_search.specs.Fitting.{HasFittingModes, serial_start, serial, FittingModesSuffice, FeasibleModesFit, BeyondTheHorizonIsNone}

-- sums do not fall
sum-rises : (f : ℕ → ℕ) (n m : ℕ) → n ≤ m → sum_below f n ≤ sum_below f m
sum-rises f n zero l = omega (arith, ap (sum_below f) (let e : n ≡ 0 = omega arith in e))
sum-rises f n (suc m) l =
    ⊎_elim
    (λ (inside : n < suc m). omega (arith, sum-rises f n m (omega arith)))
    (λ (past : suc m ≤ n). omega (arith, ap (sum_below f) (let e : n ≡ suc m = omega arith in e)))
    (cases_lt n (suc m))

-- a sum begins with its first number
sum-first : (f : ℕ → ℕ) (n : ℕ) → sum_below f (suc n) ≡ f 0 + sum_below (λ i. f (suc i)) n
sum-first f zero = omega arith
sum-first f (suc n) = omega (arith, sum-first f n)

duration-le-longest : (ms : List ModeData) (m : ℕ) → m < length ms → (get_or ms m no_mode).duration ≤ longest ms
duration-le-longest [] m l = absurd (omega arith)
duration-le-longest (x ∷ ms) zero l = omega arith
duration-le-longest (x ∷ ms) (suc m) l = omega (arith, duration-le-longest ms m (omega arith))

sum-le-horizon : (all : List ActivityData) (f : ℕ → ℕ) → ((i : ℕ) → i < length all → f i ≤ longest (get_or all i no_activity).modes) → sum_below f (length all) ≤ horizon all
sum-le-horizon [] f h = omega arith
sum-le-horizon (a ∷ more) f h =
    let first : f 0 ≤ longest a.modes = h 0 (omega arith) in
    let rest : sum_below (λ i. f (suc i)) (length more) ≤ horizon more = sum-le-horizon more (λ i. f (suc i)) (λ i l. h (suc i) (omega arith)) in
    omega (arith, sum-first f (length more))

start-is : (p : ProjectData) (s : ScheduleData) (j : ℕ) → j < size p → start_of (serial p s) j ≡ serial_start p s j
unfolding start_of serial
start-is p s j l = get_or-map-range_with_len (serial_start p s) 0 (size p) j j 0 l (omega arith)

mode-is : (p : ProjectData) (s : ScheduleData) (j : ℕ) → mode_of (serial p s) j ≡ mode_of s j
unfolding mode_of serial
mode-is p s j = refl

finish-is : (p : ProjectData) (s : ScheduleData) (j : ℕ) → j < size p → finish p (serial p s) j ≡ serial_start p s (suc j)
unfolding finish
finish-is p s j l = rw (start-is p s j l) (rw (mode-is p s j) refl)

-- what the first n of a sequence use of a resource in a period
used : ProjectData → ScheduleData → ℕ → ℕ → ℕ → ℕ
used p s r t n = sum_below (λ j. load p r t j (mode_of s j) (serial_start p s j)) n

-- it is within the capacity, and nothing once they have ended
record IsUsedWell (p : ProjectData) (s : ScheduleData) (r t n : ℕ) : Type 0 where
  within : used p s r t n ≤ capacity p r
  over : serial_start p s n ≤ t → used p s r t n ≡ 0

load-fits : (p : ProjectData) (s : ScheduleData) (r t j : ℕ) → HasFittingModes p s → j < size p → r < renewables p → serial_start p s j ≤ t → load p r t j (mode_of s j) (serial_start p s j) ≤ capacity p r
load-fits p s r t j fits l inside begun =
    ⊎_elim
    (λ (some : 0 < duration p j (mode_of s j)). omega (arith, load-le-request p r t j (mode_of s j) (serial_start p s j), fits.executable j r l inside some))
    (λ (none : duration p j (mode_of s j) ≤ 0). omega (arith, load-over p r t j (mode_of s j) (serial_start p s j) (omega arith)))
    (cases_lt 0 (duration p j (mode_of s j)))

used-well : (p : ProjectData) (s : ScheduleData) (r t n : ℕ) → HasFittingModes p s → r < renewables p → n ≤ size p → IsUsedWell p s r t n
unfolding used
used-well p s r t zero fits inside l = record { within = omega arith; over = λ _. refl }
used-well p s r t (suc n) fits inside l =
    let before : IsUsedWell p s r t n = used-well p s r t n fits inside (omega arith) in
    ⊎_elim
    (λ (early : t < serial_start p s n).
    let none : load p r t n (mode_of s n) (serial_start p s n) ≡ 0 = load-before p r t n (mode_of s n) (serial_start p s n) early in
    let made : IsUsedWell p s r t (suc n) = record { within = omega (arith, before.within); over = λ o. absurd (omega (arith, o, early)) } in
    made)
    (λ (late : serial_start p s n ≤ t).
    let free : used p s r t n ≡ 0 = before.over late in
    let made : IsUsedWell p s r t (suc n) = record {
      within = omega (arith, free, load-fits p s r t n fits (omega arith) inside late);
      over = λ o. omega (arith, free, load-over p r t n (mode_of s n) (serial_start p s n) o);
    } in
    made)
    (cases_lt t (serial_start p s n))

use-is : (p : ProjectData) (s : ScheduleData) (r t : ℕ) → use_of p (serial p s) r t ≡ used p s r t (size p)
unfolding use_of used
use-is p s r t =
    sum_below-same (λ j. load p r t j (mode_of (serial p s) j) (start_of (serial p s) j)) (λ j. load p r t j (mode_of s j) (serial_start p s j)) (size p)
    (λ j l. rw (start-is p s j l) (rw (mode-is p s j) refl))

consumed-is : (p : ProjectData) (s : ScheduleData) (r : ℕ) → consumed p (serial p s) r ≡ consumed p s r
unfolding consumed mode_of serial
consumed-is p s r = refl

starts-le-horizon : (p : ProjectData) (s : ScheduleData) → HasFittingModes p s → serial_start p s (size p) ≤ horizon p.activities
unfolding duration size modes mode_count
starts-le-horizon p s fits =
    sum-le-horizon p.activities (λ i. duration p i (mode_of s i)) (λ i l. duration-le-longest (modes p i) (mode_of s i) (fits.exist i l).1)

ends-by-horizon : (p : ProjectData) (s : ScheduleData) → HasFittingModes p s → makespan p (serial p s) ≤ horizon p.activities
unfolding makespan
ends-by-horizon p s fits =
    max_below-le (finish p (serial p s)) (size p) (horizon p.activities)
    (λ j l. omega (arith, finish-is p s j l, sum-rises (λ i. duration p i (mode_of s i)) (suc j) (size p) (omega arith), starts-le-horizon p s fits))

serial-modes : (p : ProjectData) (s : ScheduleData) → length s.modes ≡ size p → length (serial p s).modes ≡ size p
unfolding serial
serial-modes p s h = h

serial-starts : (p : ProjectData) (s : ScheduleData) → length (serial p s).starts ≡ size p
unfolding serial
serial-starts p s = length-map-range_with_len (serial_start p s) 0 (size p)

serial-has : (p : ProjectData) (s : ScheduleData) (j : ℕ) → HasMode p s j → HasMode p (serial p s) j
unfolding serial mode_of
serial-has p s j h = h

serial-feasible : (p : ProjectData) (s : ScheduleData) → IsProject p → HasFittingModes p s → IsFeasible p (serial p s)
serial-feasible p s ok fits = record {
  modes_fit = serial-modes p s fits.all;
  starts_fit = serial-starts p s;
  modes_exist = λ j l. serial-has p s j (fits.exist j l);
  precedence = λ i j l k e. omega (arith, finish-is p s i l, start-is p s j k, sum-rises (λ x. duration p x (mode_of s x)) (suc i) j (omega (arith, (precedes-rising p i j ok e).0)));
  renewable = λ r t l. omega (arith, use-is p s r t, (used-well p s r t (size p) fits l (omega arith)).within);
  nonrenewable = λ r l. omega (arith, consumed-is p s r, fits.stocks r l);
}

pub fitting_suffice : FittingModesSuffice
fitting_suffice p s ok fits = (serial-feasible p s (kept p ok) fits, ends-by-horizon p s fits)

request-fits : (p : ProjectData) (s : ScheduleData) (j r : ℕ) → IsFeasible p s → j < size p → r < renewables p → 0 < duration p j (mode_of s j) → request p j (mode_of s j) r ≤ capacity p r
unfolding use_of
request-fits p s j r feasible l inside some =
    let t = start_of s j in
    let runs : load p r t j (mode_of s j) t ≡ request p j (mode_of s j) r = load-running p r t j (mode_of s j) t (omega arith) (omega arith) in
    let one : load p r t j (mode_of s j) t ≤ use_of p s r t = at-le-sum_below (λ i. load p r t i (mode_of s i) (start_of s i)) (size p) j l in
    omega (arith, feasible.renewable r t inside)

pub feasible_fit : FeasibleModesFit
feasible_fit p s feasible = record {
  all = feasible.modes_fit;
  exist = feasible.modes_exist;
  executable = λ j r l inside some. request-fits p s j r feasible l inside some;
  stocks = feasible.nonrenewable;
}

pub none_beyond : BeyondTheHorizonIsNone
none_beyond p ok long s feasible =
    let short = fitting_suffice p s ok (feasible_fit p s feasible) in
    omega (arith, long (serial p s) short.0, short.1)
