-- What prices refute (Möhring, Schulz, Stork and Uetz 2003): if the cheapest choices of all
-- activities together cost more than the supply, no feasible schedule is within the bound.
use Rattle.std.specs.Prelude.{◌≡◌, ℕ, ◌+◌, Bool, true, cond, ◌&&◌, nat_le, List, Option, Some, None, sum_by}
use Rattle.mrcpsp.specs.Project.{ProjectData, size, mode_count}
use Rattle.schedule_prices.specs.declared.row.Price.{Price}
use Rattle.schedule_prices.specs.declared.prices.TheConstants.{MOST_PRICES}
use Rattle.schedule_prices.specs.Least.{least_below, total_below, exceeds}
use Rattle.schedule_prices.specs.Rows.{are_rows, cost, supply}
use Rattle.schedule_prices.specs.Choices.{AreBarred, EachExceeds, with_piece, kept_to}

-- whether the prices are of rows of the project, and low enough for their sums
abbrev pub are_prices : ProjectData → List Price → Bool
are_prices p prices = are_rows p prices && nat_le (sum_by (λ x. x.price) prices) MOST_PRICES

-- the cost of a choice, missing if it is barred
abbrev pub cost_left : ProjectData → (ℕ → ℕ → ℕ → Bool) → List Price → ℕ → ℕ → ℕ → Option ℕ
cost_left p barred prices j m t = cond (barred j m t) None (Some (cost p prices j m t))

-- the least cost of activity j over the starts, and over the modes and starts, that are not barred
abbrev pub cheapest_in : ProjectData → ℕ → (ℕ → ℕ → ℕ → Bool) → List Price → ℕ → ℕ → Option ℕ
cheapest_in p bound barred prices j m = least_below (cost_left p barred prices j m) (bound + 1)

unfoldable pub cheapest : ProjectData → ℕ → (ℕ → ℕ → ℕ → Bool) → List Price → ℕ → Option ℕ
cheapest p bound barred prices j = least_below (cheapest_in p bound barred prices j) (mode_count p j)

-- whether the cheapest choices together cost more than the supply
abbrev pub are_over : ProjectData → ℕ → (ℕ → ℕ → ℕ → Bool) → List Price → Bool
are_over p bound barred prices = exceeds (total_below (cheapest p bound barred prices) (size p)) (supply p prices)

-- whether the prices refute the bound
unfoldable pub refutes : ProjectData → ℕ → (ℕ → ℕ → ℕ → Bool) → List Price → Bool
refutes p bound barred prices = are_prices p prices && are_over p bound barred prices

-- prices that refute are right
abbrev pub PricesExceed : Type 0
PricesExceed = (p : ProjectData) (bound : ℕ) (barred : ℕ → ℕ → ℕ → Bool) (prices : List Price) → AreBarred p bound barred → refutes p bound barred prices ≡ true → EachExceeds p bound

-- prices that refute the bound with an activity kept to a piece bar the piece
abbrev pub EachStepIsSound : Type 0
EachStepIsSound = (p : ProjectData) (bound : ℕ) (barred : ℕ → ℕ → ℕ → Bool) (prices : List Price) (x : ℕ) (piece : ℕ → ℕ → Bool) → AreBarred p bound barred
    → refutes p bound (kept_to barred x piece) prices ≡ true → AreBarred p bound (with_piece barred x piece)
