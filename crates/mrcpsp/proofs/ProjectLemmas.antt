-- Projects, loads, shortest durations and tails.
use Rattle.std.proofs.Common.{◌≡◌, ℕ, zero, suc, ◌+◌, ◌<◌, ◌≤◌, ◌-◌, true, ◌==◌, List, [], ◌∷◌, get_or, All, arith, subst, ⊎_elim}
use Rattle.std.specs.List.{list_any}
use Rattle.std.proofs.lemmas.Bool.{or_cases, or_left, or_right, cases_lt, false≢true, eqb-true, eq-eqb}
use Rattle.std.proofs.lemmas.List.{get_or_past}
use Rattle.std.proofs.lemmas.List.Elements.{All-head, All-tail, All-nil, All-cons}
use Rattle.std.proofs.lemmas.Bool.Decides.{nat_tests}
use Rattle.mrcpsp.specs.Project.{ProjectData, no_activity, size, modes, mode_count, successors, duration, request, consumption, precedes, ModeData, no_mode}
use Rattle.mrcpsp.specs.Schedule.{ScheduleData, IsFeasible, mode_of, start_of, finish, load, makespan}
use Rattle.mrcpsp.specs.Limits.{IsProject}
use Rattle.mrcpsp.specs.Values.{shortest, least}
use Rattle.mrcpsp.specs.Values.{chain, tail, bound}
use Rattle.mrcpsp.proofs.NumbersLemmas.{smallest-le, largest-le, at-le-max_below, max_below-le}

-- what holds of each element holds of one that a test finds
pub All-at_any : (P : ℕ → Type 0) (xs : List ℕ) (j : ℕ) → All P xs → list_any (λ s. s == j) xs ≡ true → P j
All-at_any P [] j h e = absurd (false≢true e)
All-at_any P (x ∷ xs) j h e =
    ⊎_elim (λ (here : (x == j) ≡ true). subst (λ y. P y) (eqb-true x j here) (All-head P x xs h))
    (λ there. All-at_any P xs j (All-tail P x xs h) there)
    (or_cases (x == j) (list_any (λ s. s == j) xs) e)

pub precedes-rising : (p : ProjectData) (i j : ℕ) → IsProject p → precedes p i j ≡ true → (i < j) × (j < size p)
unfolding precedes successors size
precedes-rising p i j ok e =
    ⊎_elim (λ (l : i < size p). let both : (i + 1 < j + 1) × (j + 1 ≤ size p) = All-at_any (λ s. (i + 1 < s) × (s ≤ size p)) (successors p i) (j + 1) (ok.rising i l) e in (omega arith, omega arith))
    (λ (past : size p ≤ i).
    let none : get_or p.activities i no_activity ≡ no_activity = get_or_past p.activities i no_activity past in
    let gone : list_any (λ s. s == j + 1) (no_activity).successors ≡ true = subst (λ a. list_any (λ s. s == j + 1) a.successors ≡ true) none e in
    absurd (false≢true gone))
    (cases_lt i (size p))

-- who runs at t after an earlier start also runs at t after a later start that t has reached
pub load-le-later : (p : ProjectData) (r t j m a b : ℕ) → a ≤ b → b ≤ t → load p r t j m a ≤ load p r t j m b
unfolding load
load-le-later p r t j m a b l h = grind (arith, nat_tests)

pub load-le-request : (p : ProjectData) (r t j m a : ℕ) → load p r t j m a ≤ request p j m r
unfolding load
load-le-request p r t j m a = grind (arith, nat_tests)

pub load-running : (p : ProjectData) (r t j m a : ℕ) → a ≤ t → t < a + duration p j m → load p r t j m a ≡ request p j m r
unfolding load
load-running p r t j m a h l = grind (arith, nat_tests)

pub load-before : (p : ProjectData) (r t j m a : ℕ) → t < a → load p r t j m a ≡ 0
unfolding load
load-before p r t j m a l = grind (arith, nat_tests)

pub load-over : (p : ProjectData) (r t j m a : ℕ) → a + duration p j m ≤ t → load p r t j m a ≡ 0
unfolding load
load-over p r t j m a l = grind (arith, nat_tests)

pub shortest-le : (p : ProjectData) (j m : ℕ) → m < mode_count p j → shortest p j ≤ duration p j m
unfolding shortest duration mode_count
shortest-le p j m l = smallest-le (λ (x : ModeData). x.duration) (modes p j) m no_mode l

pub least-le : (p : ProjectData) (j m r : ℕ) → m < mode_count p j → least p j r ≤ consumption p j m r
unfolding least consumption mode_count
least-le p j m r l = smallest-le (λ (x : ModeData). get_or x.nonrenewable r 0) (modes p j) m no_mode l

-- what holds of each activity that comes after this one holds along its successors
pub All-successors : (p : ProjectData) (i : ℕ) (P : ℕ → Type 0) → IsProject p → i < size p → ((j : ℕ) → precedes p i j ≡ true → P j) → All (λ s. P (s - 1)) (successors p i)
unfolding precedes
All-successors p i P ok inside h = go (successors p i) (ok.rising i inside) h
  where
    go : (xs : List ℕ) → All (λ s. (i + 1 < s) × (s ≤ size p)) xs → ((j : ℕ) → list_any (λ s. s == j + 1) xs ≡ true → P j) → All (λ s. P (s - 1)) xs
    go [] all f = All-nil (λ s. P (s - 1))
    go (x ∷ xs) all f =
        let above : i + 1 < x = (All-head (λ s. (i + 1 < s) × (s ≤ size p)) x xs all).0 in
        All-cons (λ s. P (s - 1)) x xs (f (x - 1) (or_left (x == x - 1 + 1) _ (eq-eqb x (x - 1 + 1) (omega arith)))) (go xs (All-tail (λ s. (i + 1 < s) × (s ≤ size p)) x xs all) (λ j e. f j (or_right (x == j + 1) _ e)))

-- in a feasible schedule a chain of successors fits between an activity's finish and the makespan
chain-step : (p : ProjectData) (s : ScheduleData) → IsProject p → IsFeasible p s → (k j : ℕ) → j < size p → ((i : ℕ) → i < size p → finish p s i + chain p k i ≤ makespan p s) → (i : ℕ) → precedes p j i ≡ true → shortest p i + chain p k i ≤ makespan p s - finish p s j
unfolding finish
chain-step p s ok feasible k j l below i e =
    let later = precedes-rising p j i ok e in
    let after : finish p s j ≤ start_of s i = feasible.precedence j i l later.1 e in
    let mode : shortest p i ≤ duration p i (mode_of s i) = shortest-le p i (mode_of s i) (feasible.modes_exist i later.1).1 in
    omega (arith, below i later.1)

pub chain-le : (p : ProjectData) (s : ScheduleData) → IsProject p → IsFeasible p s → (k j : ℕ) → j < size p → finish p s j + chain p k j ≤ makespan p s
unfolding makespan
chain-le p s ok feasible zero j l = omega (arith, at-le-max_below (finish p s) (size p) j l)
chain-le p s ok feasible (suc k) j l =
    let step : (i : ℕ) → precedes p j i ≡ true → shortest p i + chain p k i ≤ makespan p s - finish p s j = chain-step p s ok feasible k j l (λ i h. chain-le p s ok feasible k i h) in
    let most : chain p (suc k) j ≤ makespan p s - finish p s j = largest-le (λ s. shortest p (s - 1) + chain p k (s - 1)) (successors p j) (makespan p s - finish p s j) (All-successors p j (λ i. shortest p i + chain p k i ≤ makespan p s - finish p s j) ok l step) in
    omega (arith, at-le-max_below (finish p s) (size p) j l)

pub tail-le : (p : ProjectData) (s : ScheduleData) → IsProject p → IsFeasible p s → (j : ℕ) → j < size p → finish p s j + tail p j ≤ makespan p s
unfolding tail
tail-le p s ok feasible j l = chain-le p s ok feasible (size p) j l

-- no activity finishes before its shortest duration has passed
pub shortest-le-finish : (p : ProjectData) (s : ScheduleData) → IsFeasible p s → (j : ℕ) → j < size p → shortest p j ≤ finish p s j
unfolding finish
shortest-le-finish p s feasible j l = omega (arith, shortest-le p j (mode_of s j) (feasible.modes_exist j l).1)

pub bound-le : (p : ProjectData) (s : ScheduleData) → IsProject p → IsFeasible p s → bound p ≤ makespan p s
unfolding bound
bound-le p s ok feasible =
    max_below-le (λ j. shortest p j + tail p j) (size p) (makespan p s) (λ j l. omega (arith, shortest-le-finish p s feasible j l, tail-le p s ok feasible j l))
