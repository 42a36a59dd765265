-- The first breach, and that a schedule without a breach is feasible.
use Rattle.std.proofs.Common.{◌≡◌, ℕ, zero, suc, ◌+◌, ◌-◌, ◌<◌, ◌≤◌, ◌⊎◌, ◌==◌, true, List, [], ◌∷◌, length, get_or, Option, Some, None, arith, refl, inl, inr, ⊎_elim, ◌∙◌}
use Rattle.std.specs.List.{list_any}
use Rattle.std.proofs.lemmas.Bool.{cases_lt, cases_eq, or_left, or_right, eq-eqb}
use Rattle.std.proofs.lemmas.Bool.Decides.{nat_tests}
use Rattle.std.proofs.lemmas.List.{get_or_default}
use Rattle.mrcpsp.specs.Numbers.{sum_below}
use Rattle.mrcpsp.specs.Project.{ProjectData, size, renewables, nonrenewables, successors, capacity, stock, precedes}
use Rattle.mrcpsp.specs.Schedule.{ScheduleData, IsFeasible, HasMode, mode_of, start_of, finish, load, use_of, consumed}
use Rattle.mrcpsp.specs.Breach.{HasShape, HasModes, IsBroken, IsBefore, IsBelow, IsFirstBreach, IsFirstOf, HasNone, StartsEarly, IsFirstOveruse, IsFirstStartOverused, kind_of, numbers_of}
use Rattle.mrcpsp.specs.declared.breach.Breach.{Breach}
use Rattle.mrcpsp.specs.declared.breach.Breach.TheVariants.{Shape, Mode, Precedence, Renewable, Nonrenewable}
use Rattle.mrcpsp.proofs.NumbersLemmas.{sum_below-le, sum_below-same}
use Rattle.mrcpsp.proofs.ProjectLemmas.{All-at_any, load-before}

-- ---- modes

mode-least : (p : ProjectData) (s : ScheduleData) (j : ℕ) → ((k : ℕ) → k < j → HasMode p s k) → (c : Breach) → kind_of c ≡ 2 → IsBroken p s c → IsBelow (numbers_of c) ((j + 1) ∷ []) → ⊥
mode-least p s j before Shape k b l = absurd (omega arith)
mode-least p s j before (Mode i) k b l = ⊎_elim (λ (lt : i < j + 1). b.1 (before (i - 1) (omega (arith, b.0.0)))) (λ e. e.1) l
mode-least p s j before (Precedence i m) k b l = absurd (omega arith)
mode-least p s j before (Renewable r t) k b l = absurd (omega arith)
mode-least p s j before (Nonrenewable r) k b l = absurd (omega arith)

pub mode-first : (p : ProjectData) (s : ScheduleData) (j : ℕ) → j < size p → (HasMode p s j → ⊥) → ((k : ℕ) → k < j → HasMode p s k) → IsFirstOf 2 p s (Mode (j + 1))
mode-first p s j inside bad before =
    let same : j + 1 - 1 ≡ j = omega arith in
    record {
      kind = refl;
      broken = ((omega arith, omega arith), rw same bad);
      least = mode-least p s j before;
    }

pub mode-none : (p : ProjectData) (s : ScheduleData) → HasModes p s → HasNone 2 p s
mode-none p s has Shape k b = absurd (omega arith)
mode-none p s has (Mode i) k b = b.1 (has (i - 1) (omega (arith, b.0.0, b.0.1)))
mode-none p s has (Precedence i m) k b = absurd (omega arith)
mode-none p s has (Renewable r t) k b = absurd (omega arith)
mode-none p s has (Nonrenewable r) k b = absurd (omega arith)

-- ---- precedence

early-least : (p : ProjectData) (s : ScheduleData) (i j : ℕ) → ((k m : ℕ) → k < i → m < size p → StartsEarly p s k m → ⊥) → ((k : ℕ) → k < j → StartsEarly p s i k → ⊥) → (c : Breach) → kind_of c ≡ 3 → IsBroken p s c → IsBelow (numbers_of c) ((i + 1) ∷ (j + 1) ∷ []) → ⊥
early-least p s i j earlier before Shape k b l = absurd (omega arith)
early-least p s i j earlier before (Mode x) k b l = absurd (omega arith)
early-least p s i j earlier before (Precedence x y) k b l =
    ⊎_elim (λ (lt : x < i + 1). earlier (x - 1) (y - 1) (omega (arith, b.0.0)) (omega (arith, b.1.0, b.1.1)) (b.2, b.3))
    (λ (e : (x ≡ i + 1) × ((y < j + 1) ⊎ ((y ≡ j + 1) × ⊥))).
    ⊎_elim
    (λ (lt : y < j + 1).
    let same : x - 1 ≡ i = omega (arith, e.0) in
    let after : precedes p i (y - 1) ≡ true = rw same at b.2 in
    let early : start_of s (y - 1) < finish p s i = rw same at b.3 in
    before (y - 1) (omega (arith, b.1.0)) (after, early))
    (λ f. f.1) e.1) l
early-least p s i j earlier before (Renewable r t) k b l = absurd (omega arith)
early-least p s i j earlier before (Nonrenewable r) k b l = absurd (omega arith)

-- a listed number is that of a successor
listed-any : (xs : List ℕ) (k : ℕ) → k < length xs → list_any (λ s. s == get_or xs k 0) xs ≡ true
listed-any [] k l = absurd (omega arith)
listed-any (x ∷ xs) zero l = or_left (x == x) (list_any (λ s. s == x) xs) (eq-eqb x x refl)
listed-any (x ∷ xs) (suc k) l = or_right (x == get_or xs k 0) (list_any (λ s. s == get_or xs k 0) xs) (listed-any xs k (omega arith))

pub listed-precedes : (p : ProjectData) (i k : ℕ) → k < length (successors p i) → 0 < get_or (successors p i) k 0 → precedes p i (get_or (successors p i) k 0 - 1) ≡ true
unfolding precedes
listed-precedes p i k l some =
    let same : get_or (successors p i) k 0 - 1 + 1 ≡ get_or (successors p i) k 0 = omega arith in
    rw same (listed-any (successors p i) k l)

-- what comes after each early successor in the list is at most each early successor
pub early-listed : (p : ProjectData) (s : ScheduleData) (i first : ℕ) → ((k : ℕ) → k < length (successors p i) → start_of s (get_or (successors p i) k 0 - 1) < finish p s i → first ≤ get_or (successors p i) k 0 - 1) → (j : ℕ) → StartsEarly p s i j → first ≤ j
unfolding precedes
early-listed p s i first least j early =
    let same : j + 1 - 1 ≡ j = omega arith in
    let above : start_of s (j + 1 - 1) < finish p s i → first ≤ j + 1 - 1 = All-at_any (λ x. start_of s (x - 1) < finish p s i → first ≤ x - 1) (successors p i) (j + 1) (λ k d h. rw (get_or_default (successors p i) k d 0 h) (least k h)) early.0 in
    let begun : start_of s (j + 1 - 1) < finish p s i = rw same early.1 in
    omega (arith, above begun)

pub early-first : (p : ProjectData) (s : ScheduleData) (i j : ℕ) → i < size p → j < size p → StartsEarly p s i j → ((k m : ℕ) → k < i → m < size p → StartsEarly p s k m → ⊥) → ((k : ℕ) → k < j → StartsEarly p s i k → ⊥) → IsFirstOf 3 p s (Precedence (i + 1) (j + 1))
early-first p s i j inside within early earlier before =
    let same : i + 1 - 1 ≡ i = omega arith in
    let other : j + 1 - 1 ≡ j = omega arith in
    record {
      kind = refl;
      broken = ((omega arith, omega arith), (omega arith, omega arith), rw (same, other) early.0, rw (same, other) early.1);
      least = early-least p s i j earlier before;
    }

pub early-none : (p : ProjectData) (s : ScheduleData) → ((k m : ℕ) → k < size p → m < size p → StartsEarly p s k m → ⊥) → HasNone 3 p s
early-none p s none Shape k b = absurd (omega arith)
early-none p s none (Mode i) k b = absurd (omega arith)
early-none p s none (Precedence x y) k b = none (x - 1) (y - 1) (omega (arith, b.0.0, b.0.1)) (omega (arith, b.1.0, b.1.1)) (b.2, b.3)
early-none p s none (Renewable r t) k b = absurd (omega arith)
early-none p s none (Nonrenewable r) k b = absurd (omega arith)

-- ---- renewable resources

overuse-least : (p : ProjectData) (s : ScheduleData) (r t : ℕ) → ((k u : ℕ) → k < r → use_of p s k u ≤ capacity p k) → ((u : ℕ) → u < t → use_of p s r u ≤ capacity p r) → (c : Breach) → kind_of c ≡ 4 → IsBroken p s c → IsBelow (numbers_of c) ((r + 1) ∷ t ∷ []) → ⊥
overuse-least p s r t earlier before Shape k b l = absurd (omega arith)
overuse-least p s r t earlier before (Mode x) k b l = absurd (omega arith)
overuse-least p s r t earlier before (Precedence x y) k b l = absurd (omega arith)
overuse-least p s r t earlier before (Renewable x u) k b l =
    ⊎_elim (λ (lt : x < r + 1). omega (arith, earlier (x - 1) u (omega (arith, b.0.0)), b.1))
    (λ (e : (x ≡ r + 1) × ((u < t) ⊎ ((u ≡ t) × ⊥))).
    ⊎_elim
    (λ (lt : u < t).
    let same : x - 1 ≡ r = omega (arith, e.0) in
    let over : capacity p r < use_of p s r u = rw same at b.1 in
    omega (arith, before u lt))
    (λ f. f.1) e.1) l
overuse-least p s r t earlier before (Nonrenewable x) k b l = absurd (omega arith)

pub overuse-first : (p : ProjectData) (s : ScheduleData) (r t : ℕ) → r < renewables p → capacity p r < use_of p s r t → ((k u : ℕ) → k < r → use_of p s k u ≤ capacity p k) → ((u : ℕ) → u < t → use_of p s r u ≤ capacity p r) → IsFirstOf 4 p s (Renewable (r + 1) t)
overuse-first p s r t inside over earlier before =
    let same : r + 1 - 1 ≡ r = omega arith in
    record {
      kind = refl;
      broken = ((omega arith, omega arith), rw same over);
      least = overuse-least p s r t earlier before;
    }

pub overuse-none : (p : ProjectData) (s : ScheduleData) → ((k u : ℕ) → k < renewables p → use_of p s k u ≤ capacity p k) → HasNone 4 p s
overuse-none p s none Shape k b = absurd (omega arith)
overuse-none p s none (Mode i) k b = absurd (omega arith)
overuse-none p s none (Precedence x y) k b = absurd (omega arith)
overuse-none p s none (Renewable r t) k b = omega (arith, none (r - 1) t (omega (arith, b.0.0, b.0.1)), b.1)
overuse-none p s none (Nonrenewable r) k b = absurd (omega arith)

-- ---- nonrenewable resources

stock-least : (p : ProjectData) (s : ScheduleData) (r : ℕ) → ((k : ℕ) → k < r → consumed p s k ≤ stock p k) → (c : Breach) → kind_of c ≡ 5 → IsBroken p s c → IsBelow (numbers_of c) ((r + 1) ∷ []) → ⊥
stock-least p s r before Shape k b l = absurd (omega arith)
stock-least p s r before (Mode x) k b l = absurd (omega arith)
stock-least p s r before (Precedence x y) k b l = absurd (omega arith)
stock-least p s r before (Renewable x u) k b l = absurd (omega arith)
stock-least p s r before (Nonrenewable x) k b l = ⊎_elim (λ (lt : x < r + 1). omega (arith, before (x - 1) (omega (arith, b.0.0)), b.1)) (λ e. e.1) l

pub stock-first : (p : ProjectData) (s : ScheduleData) (r : ℕ) → r < nonrenewables p → stock p r < consumed p s r → ((k : ℕ) → k < r → consumed p s k ≤ stock p k) → IsFirstOf 5 p s (Nonrenewable (r + 1))
stock-first p s r inside over before =
    let same : r + 1 - 1 ≡ r = omega arith in
    record {
      kind = refl;
      broken = ((omega arith, omega arith), rw same over);
      least = stock-least p s r before;
    }

pub stock-none : (p : ProjectData) (s : ScheduleData) → ((k : ℕ) → k < nonrenewables p → consumed p s k ≤ stock p k) → HasNone 5 p s
stock-none p s none Shape k b = absurd (omega arith)
stock-none p s none (Mode i) k b = absurd (omega arith)
stock-none p s none (Precedence x y) k b = absurd (omega arith)
stock-none p s none (Renewable r t) k b = absurd (omega arith)
stock-none p s none (Nonrenewable r) k b = omega (arith, none (r - 1) (omega (arith, b.0.0, b.0.1)), b.1)

-- ---- the use of a renewable resource rises at starts alone

-- of the numbers below n that f sends to at most u, one that it sends highest, where there is one
abbrev IsHighest : (ℕ → ℕ) → ℕ → ℕ → ℕ → Type 0
IsHighest f u n k = (k < n) × (f k ≤ u) × ((j : ℕ) → j < n → f j ≤ u → f j ≤ f k)

zeros : (n : ℕ) → sum_below (λ _. 0) n ≡ 0
zeros zero = refl
zeros (suc n) = omega (arith, zeros n)

-- who runs at u and had started by t, no later than u, runs at t too
load-le-earlier : (p : ProjectData) (r u t j m a : ℕ) → a ≤ t → t ≤ u → load p r u j m a ≤ load p r t j m a
unfolding load
load-le-earlier p r u t j m a h l = grind (arith, nat_tests)

highest_or_none : (f : ℕ → ℕ) (u n : ℕ) → ((j : ℕ) → j < n → u < f j) ⊎ ((k : ℕ) × IsHighest f u n k)
highest_or_none f u zero = inl (λ j l. absurd (omega arith))
highest_or_none f u (suc n) =
    ⊎_elim
    (λ (none : (j : ℕ) → j < n → u < f j).
    ⊎_elim
    (λ (over : u < f n). inl (λ j l. ⊎_elim (λ (e : j ≡ n). rw e over) (λ (ne : j ≡ n → ⊥). none j (omega arith)) (cases_eq j n)))
    (λ (under : f n ≤ u). inr (n, (omega arith, under, λ j l h. ⊎_elim (λ (e : j ≡ n). rw e (omega arith)) (λ (ne : j ≡ n → ⊥). absurd (omega (arith, none j (omega arith)))) (cases_eq j n))))
    (cases_lt u (f n)))
    (λ (some : (k : ℕ) × IsHighest f u n k).
    let k = some.0 in let is = some.1 in
    ⊎_elim
    (λ (over : u < f n). inr (k, (omega (arith, is.0), is.1, λ j l h. ⊎_elim (λ (e : j ≡ n). absurd (let e' : u < f j = rw e over in omega arith)) (λ (ne : j ≡ n → ⊥). is.2 j (omega arith) h) (cases_eq j n))))
    (λ (under : f n ≤ u).
    ⊎_elim
    (λ (more : f k < f n). inr (n, (omega arith, under, λ j l h. ⊎_elim (λ (e : j ≡ n). rw e (omega arith)) (λ (ne : j ≡ n → ⊥). omega (arith, is.2 j (omega arith) h)) (cases_eq j n))))
    (λ (less : f n ≤ f k). inr (k, (omega (arith, is.0), is.1, λ j l h. ⊎_elim (λ (e : j ≡ n). rw e less) (λ (ne : j ≡ n → ⊥). is.2 j (omega arith) h) (cases_eq j n))))
    (cases_lt (f k) (f n)))
    (cases_lt u (f n)))
    (highest_or_none f u n)

-- what is used in a period was used already at the latest start up to it
pub use-le-at-start : (p : ProjectData) (s : ScheduleData) (r u : ℕ) → (use_of p s r u ≡ 0) ⊎ ((k : ℕ) × ((k < size p) × (start_of s k ≤ u) × (use_of p s r u ≤ use_of p s r (start_of s k))))
unfolding use_of
use-le-at-start p s r u =
    let at : ℕ → ℕ → ℕ = λ t j. load p r t j (mode_of s j) (start_of s j) in
    ⊎_elim
    (λ (none : (j : ℕ) → j < size p → u < start_of s j).
    inl (sum_below-same (at u) (λ _. 0) (size p) (λ j l. load-before p r u j (mode_of s j) (start_of s j) (none j l)) ∙ zeros (size p)))
    (λ (some : (k : ℕ) × IsHighest (start_of s) u (size p) k).
    let k = some.0 in let is = some.1 in
    inr (
      k,
      (
        is.0,
        is.1,
        sum_below-le (at u) (at (start_of s k)) (size p) (λ j l.
            ⊎_elim (λ (later : u < start_of s j). omega (arith, load-before p r u j (mode_of s j) (start_of s j) later))
            (λ (begun : start_of s j ≤ u). load-le-earlier p r u (start_of s k) j (mode_of s j) (start_of s j) (is.2 j l begun) is.1)
            (cases_lt u (start_of s j))),
      ),
    ))
    (highest_or_none (start_of s) u (size p))

-- a resource that is not overused at a start before period v is not overused before v at all
within-before : (p : ProjectData) (s : ScheduleData) (r v : ℕ) → ((j : ℕ) → j < size p → start_of s j < v → use_of p s r (start_of s j) ≤ capacity p r) → (u : ℕ) → u < v → use_of p s r u ≤ capacity p r
within-before p s r v kept u l =
    ⊎_elim (λ (idle : use_of p s r u ≡ 0). omega arith)
    (λ (some : (k : ℕ) × ((k < size p) × (start_of s k ≤ u) × (use_of p s r u ≤ use_of p s r (start_of s k)))). omega (arith, some.1.2, kept some.0 some.1.0 (omega (arith, some.1.1))))
    (use-le-at-start p s r u)

pub overuse-at-start : (p : ProjectData) (s : ScheduleData) (found : Option (ℕ × ℕ)) → IsFirstStartOverused (size p) p s found → IsFirstOveruse p s found
overuse-at-start p s None kept = λ q u l. within-before p s q (u + 1) (λ j k _. kept q j l k) u (omega arith)
overuse-at-start p s (Some first) kept = (
  kept.0,
  kept.1,
  λ q u l. within-before p s q (u + 1) (λ j k _. kept.2 q j l k) u (omega arith),
  within-before p s first.0 first.1 kept.3,
)

-- ---- the first of all

abbrev pub HasNoneBelow : ℕ → ProjectData → ScheduleData → Type 0
HasNoneBelow n p s = (k : ℕ) → k < n → HasNone k p s

pub none-below-2 : (p : ProjectData) (s : ScheduleData) → HasShape p s → HasNoneBelow 2 p s
none-below-2 p s shape k l Shape e b = b shape
none-below-2 p s shape k l (Mode i) e b = omega arith
none-below-2 p s shape k l (Precedence x y) e b = omega arith
none-below-2 p s shape k l (Renewable r t) e b = omega arith
none-below-2 p s shape k l (Nonrenewable r) e b = omega arith

pub none-below-more : (n : ℕ) (p : ProjectData) (s : ScheduleData) → HasNoneBelow n p s → HasNone n p s → HasNoneBelow (n + 1) p s
none-below-more n p s below here k l = ⊎_elim (λ (e : k ≡ n). rw e here) (λ (ne : k ≡ n → ⊥). below k (omega arith)) (cases_eq k n)

pub shape-first : (p : ProjectData) (s : ScheduleData) → (HasShape p s → ⊥) → IsFirstBreach p s Shape
shape-first p s bad = record { broken = bad; least = λ c b l. shape-least c l }
  where
    shape-least : (c : Breach) → IsBefore c Shape → ⊥
    shape-least Shape l = ⊎_elim (λ (lt : 1 < 1). omega arith) (λ e. e.1) l
    shape-least (Mode i) l = ⊎_elim (λ (lt : 2 < 1). omega arith) (λ e. e.1) l
    shape-least (Precedence x y) l = ⊎_elim (λ (lt : 3 < 1). omega arith) (λ e. e.1) l
    shape-least (Renewable r t) l = ⊎_elim (λ (lt : 4 < 1). omega arith) (λ e. e.1) l
    shape-least (Nonrenewable r) l = ⊎_elim (λ (lt : 5 < 1). omega arith) (λ e. e.1) l

pub first-of-all : (k : ℕ) (p : ProjectData) (s : ScheduleData) (b : Breach) → IsFirstOf k p s b → HasNoneBelow k p s → IsFirstBreach p s b
first-of-all k p s b first below =
    record {
      broken = first.broken;
      least = λ c broken before.
          ⊎_elim (λ (lower : kind_of c < kind_of b). below (kind_of c) (omega (arith, first.kind)) c refl broken)
          (λ (e : (kind_of c ≡ kind_of b) × IsBelow (numbers_of c) (numbers_of b)). first.least c (e.0 ∙ first.kind) broken e.1)
          before;
    }

-- what is broken is not feasible
pub broken-infeasible : (p : ProjectData) (s : ScheduleData) (b : Breach) → IsBroken p s b → HasShape p s → IsFeasible p s → ⊥
broken-infeasible p s Shape b shape feasible = b shape
broken-infeasible p s (Mode j) b shape feasible = b.1 (feasible.modes_exist (j - 1) (omega (arith, b.0.0, b.0.1)))
broken-infeasible p s (Precedence i j) b shape feasible = omega (arith, b.3, feasible.precedence (i - 1) (j - 1) (omega (arith, b.0.0, b.0.1)) (omega (arith, b.1.0, b.1.1)) b.2)
broken-infeasible p s (Renewable r t) b shape feasible = omega (arith, b.1, feasible.renewable (r - 1) t (omega (arith, b.0.0, b.0.1)))
broken-infeasible p s (Nonrenewable r) b shape feasible = omega (arith, b.1, feasible.nonrenewable (r - 1) (omega (arith, b.0.0, b.0.1)))

-- what breaks nothing is feasible
pub feasible-from : (p : ProjectData) (s : ScheduleData) → HasShape p s → HasModes p s → HasNone 3 p s → HasNone 4 p s → HasNone 5 p s → IsFeasible p s
feasible-from p s shape modes no_early no_overuse no_shortage =
    record {
      modes_fit = shape.modes;
      starts_fit = shape.starts;
      modes_exist = modes;
      precedence = λ i j l m before.
          let first : i + 1 - 1 ≡ i = omega arith in
          let second : j + 1 - 1 ≡ j = omega arith in
          ⊎_elim
          (λ (early : start_of s j < finish p s i). absurd (no_early (Precedence (i + 1) (j + 1)) refl ((omega arith, omega arith), (omega arith, omega arith), rw (first, second) before, rw (first, second) early)))
          (λ h. h) (cases_lt (start_of s j) (finish p s i));
      renewable = λ r t l.
          let same : r + 1 - 1 ≡ r = omega arith in
          ⊎_elim (λ (over : capacity p r < use_of p s r t). absurd (no_overuse (Renewable (r + 1) t) refl ((omega arith, omega arith), rw same over))) (λ h. h) (cases_lt (capacity p r) (use_of p s r t));
      nonrenewable = λ r l.
          let same : r + 1 - 1 ≡ r = omega arith in
          ⊎_elim (λ (over : stock p r < consumed p s r). absurd (no_shortage (Nonrenewable (r + 1)) refl ((omega arith, omega arith), rw same over))) (λ h. h) (cases_lt (stock p r) (consumed p s r));
    }
