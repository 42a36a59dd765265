-- Prices whose cheapest choices cost more than the supply refute a bound, or bar a piece.
use Rattle.std.proofs.Common.{◌≡◌, ℕ, ◌+◌, ◌<◌, ◌≤◌, Bool, true, false, cond, ◌&&◌, List, arith, refl, ap, ⊎_elim, eq-eqb, ne_eqb, Some, None}
use Rattle.std.specs.Prelude.{nat_le, sum_by}
use Rattle.std.proofs.lemmas.Bool.{cases_Bool, cases_eq, cases_lt, false≢true, and_parts}
use Rattle.mrcpsp.specs.Project.{ProjectData, size, mode_count}
use Rattle.mrcpsp.specs.Schedule.{ScheduleData, IsFeasible, mode_of, start_of, finish, makespan}
use Rattle.mrcpsp.proofs.NumbersLemmas.{at-le-max_below}
use Rattle.schedule_prices.specs.declared.row.Price.{Price}
use Rattle.schedule_prices.specs.declared.prices.TheConstants.{MOST_PRICES}
use Rattle.schedule_prices.specs.Least.{total_below, exceeds}
use Rattle.schedule_prices.specs.Rows.{are_rows, cost, supply}
use Rattle.schedule_prices.specs.Choices.{AreBarred, with_piece, kept_to, NoChoiceIsLeft}
use Rattle.schedule_prices.specs.Prices.{are_prices, cost_left, cheapest_in, cheapest, refutes, PricesExceed, EachStepIsSound}
use Rattle.schedule_prices.proofs.RowLemmas.{pays-at-most}
use Rattle.schedule_prices.proofs.LeastLemmas.{IsAtMost, least-at-most, total-at-most, at-most-exceeds, least-same, total-same}

-- a start of a schedule within the bound is within the bound
pub start-le : (p : ProjectData) (s : ScheduleData) (bound j : ℕ) → makespan p s ≤ bound → j < size p → start_of s j ≤ bound
unfolding finish makespan
start-le p s bound j short l = omega (arith, at-le-max_below (finish p s) (size p) j l)

left-at-most : (b : Bool) (x : ℕ) → b ≡ false → IsAtMost (cond b None (Some x)) x
left-at-most b x e = rw e (omega arith)

-- the cheapest choice of an activity costs at most one that is not barred
pub cheapest-at-most : (p : ProjectData) (bound : ℕ) (barred : ℕ → ℕ → ℕ → Bool) (prices : List Price) (j m t : ℕ) → m < mode_count p j → t ≤ bound → barred j m t ≡ false → IsAtMost (cheapest p bound barred prices j) (cost p prices j m t)
unfolding cheapest
cheapest-at-most p bound barred prices j m t known within free =
    least-at-most (cheapest_in p bound barred prices j) (mode_count p j) m (cost p prices j m t) known
    (least-at-most (cost_left p barred prices j m) (bound + 1) t (cost p prices j m t) (omega arith) (left-at-most (barred j m t) (cost p prices j m t) free))

-- if prices refute, a feasible schedule within the bound takes a barred choice
pub too-dear : (p : ProjectData) (bound : ℕ) (barred : ℕ → ℕ → ℕ → Bool) (prices : List Price) (s : ScheduleData) → IsFeasible p s → makespan p s ≤ bound
    → ((j : ℕ) → j < size p → barred j (mode_of s j) (start_of s j) ≡ false) → refutes p bound barred prices ≡ true → ⊥
unfolding refutes
too-dear p bound barred prices s feasible short free e =
    let parts = and_parts (are_prices p prices) (exceeds (total_below (cheapest p bound barred prices) (size p)) (supply p prices)) e in
    let rows = and_parts (are_rows p prices) (nat_le (sum_by (λ x. x.price) prices) MOST_PRICES) parts.0 in
    at-most-exceeds _ _ (supply p prices)
    (total-at-most (cheapest p bound barred prices) (λ j. cost p prices j (mode_of s j) (start_of s j)) (size p)
    (λ j l. cheapest-at-most p bound barred prices j (mode_of s j) (start_of s j) (feasible.modes_exist j l).1 (start-le p s bound j short l) (free j l)))
    (pays-at-most p s prices feasible rows.0) parts.1

-- law 3
pub prices-exceed : PricesExceed
prices-exceed p bound barred prices barring e s feasible =
    ⊎_elim (λ (longer : bound < makespan p s). longer)
    (λ (short : makespan p s ≤ bound). absurd (too-dear p bound barred prices s feasible short (barring s feasible short) e))
    (cases_lt bound (makespan p s))

-- what no feasible schedule within the bound takes for x is barred besides
pub bars : (p : ProjectData) (bound : ℕ) (barred : ℕ → ℕ → ℕ → Bool) (x : ℕ) (piece : ℕ → ℕ → Bool) → AreBarred p bound barred
    → ((s : ScheduleData) → IsFeasible p s → makespan p s ≤ bound → piece (mode_of s x) (start_of s x) ≡ true → ⊥)
    → AreBarred p bound (with_piece barred x piece)
bars p bound barred x piece barring never s feasible short j l =
    let free : barred j (mode_of s j) (start_of s j) ≡ false = barring s feasible short j l in
    ⊎_elim
    (λ (e : j ≡ x).
    ⊎_elim
    (λ (inside : piece (mode_of s x) (start_of s x) ≡ true). absurd (never s feasible short inside))
    (λ (outside : piece (mode_of s x) (start_of s x) ≡ false).
    let out : piece (mode_of s j) (start_of s j) ≡ false = rw e outside in
    rw (free, eq-eqb j x e, out) refl)
    (cases_Bool (piece (mode_of s x) (start_of s x))))
    (λ (ne : j ≡ x → ⊥). rw (free, ne_eqb j x ne) refl)
    (cases_eq j x)

-- a schedule whose choice of x is in the piece takes none that is barred outside
kept-free : (barred : ℕ → ℕ → ℕ → Bool) (x : ℕ) (piece : ℕ → ℕ → Bool) (s : ScheduleData) (j : ℕ) → barred j (mode_of s j) (start_of s j) ≡ false → piece (mode_of s x) (start_of s x) ≡ true → kept_to barred x piece j (mode_of s j) (start_of s j) ≡ false
kept-free barred x piece s j free inside =
    ⊎_elim
    (λ (e : j ≡ x).
    let here : piece (mode_of s j) (start_of s j) ≡ true = rw e inside in
    rw (free, eq-eqb j x e, here) refl)
    (λ (ne : j ≡ x → ⊥). rw (free, ne_eqb j x ne) refl)
    (cases_eq j x)

-- the step
pub step-is-sound : EachStepIsSound
step-is-sound p bound barred prices x piece barring e =
    bars p bound barred x piece barring
    (λ s feasible short inside.
    too-dear p bound (kept_to barred x piece) prices s feasible short (λ j l. kept-free barred x piece s j (barring s feasible short j l) inside) e)

pub no-choice : NoChoiceIsLeft
no-choice p bound barred x barring l all s feasible =
    ⊎_elim (λ (longer : bound < makespan p s). longer)
    (λ (short : makespan p s ≤ bound).
    let free : barred x (mode_of s x) (start_of s x) ≡ false = barring s feasible short x l in
    let gone : barred x (mode_of s x) (start_of s x) ≡ true = all (mode_of s x) (start_of s x) (feasible.modes_exist x l).1 (start-le p s bound x short l) in
    absurd (false≢true (cc (free, gone))))
    (cases_lt bound (makespan p s))

pub ruleset refute_rules = (prices-exceed)

-- prices refute alike if the same choices are barred
pub refutes-same : (p : ProjectData) (bound : ℕ) (a b : ℕ → ℕ → ℕ → Bool) (prices : List Price) → ((j m t : ℕ) → j < size p → m < mode_count p j → a j m t ≡ b j m t) → refutes p bound a prices ≡ refutes p bound b prices
unfolding refutes cheapest
refutes-same p bound a b prices same =
    ap (λ total. are_prices p prices && exceeds total (supply p prices))
    (total-same (cheapest p bound a prices) (cheapest p bound b prices) (size p)
    (λ j l. least-same (cheapest_in p bound a prices j) (cheapest_in p bound b prices j) (mode_count p j)
    (λ m k. least-same (cost_left p a prices j m) (cost_left p b prices j m) (bound + 1)
    (λ t _. ap (λ gone. cond gone None (Some (cost p prices j m t))) (same j m t l k)))))
