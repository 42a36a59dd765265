-- Sums of prices over time.
use Rattle.std.specs.Prelude.{◌≡◌, ℕ, ◌+◌, ◌<◌, ◌≤◌, Bool, cond, ◌==◌, nat_le, nat_lt, List, [], length, get_or, set, min, take, drop, sum, sum_by, Option, Some, None}
use Rattle.schedule_prices.specs.declared.row.PricedRow.{PricedRow}
use Rattle.schedule_prices.specs.declared.row.PricedRow.TheVariants.{Use, Stock, Before}
use Rattle.schedule_prices.specs.declared.row.Price.{Price}
use Rattle.schedule_prices.specs.declared.place.SumKind.{SumKind}
use Rattle.schedule_prices.specs.declared.place.SumKind.TheVariants.{Begun, Ended, Used, Consumed}
use Rattle.schedule_prices.specs.declared.place.Place.{Place}

-- the line and the time that a row has among sums of a kind: the activity that has started or is
-- not over, or the resource. A stock's time is 0
abbrev pub place_of : SumKind → PricedRow → Option Place
place_of Begun (Before i k u) = Some (record { line = k; time = u })
place_of Ended (Before i k u) = Some (record { line = i; time = u })
place_of Used (Use r u) = Some (record { line = r; time = u })
place_of Consumed (Stock k) = Some (record { line = k; time = 0 })
place_of kind row = None

-- the price, if its place is in line j and its time passes the test
abbrev pub price_at : Option Place → ℕ → (ℕ → Bool) → ℕ → ℕ
price_at None j test price = 0
price_at (Some w) j test price = cond (j == w.line) (cond (test w.time) price 0) 0

-- the price, if its place is in line j at t or later, and if it is before e
abbrev pub price_from : SumKind → ℕ → ℕ → Price → ℕ
price_from kind j t x = price_at (place_of kind x.row) j (λ u. nat_le t u) x.price

abbrev pub price_before : SumKind → ℕ → ℕ → Price → ℕ
price_before kind j e x = price_at (place_of kind x.row) j (λ u. nat_lt u e) x.price

-- what a price adds to the sum of line j at t: a start at t has begun by each later time; an end
-- at t and a use up to t count each earlier time; all of a stock counts
abbrev pub price_in : SumKind → ℕ → ℕ → Price → ℕ
price_in Begun = price_from Begun
price_in Ended = price_before Ended
price_in Used = price_before Used
price_in Consumed = price_from Consumed

-- a list of numbers for the times 0 to the bound: from t on they sum to the prices of line j at t
-- or later, before e to the prices before e. Times behind the bound count as the bound
pub record IsRaw (kind : SumKind) (bound : ℕ) (prices : List Price) (j : ℕ) (line : List ℕ) : Type 0 where
  pub wide : length line ≡ bound + 1
  pub behind : (t : ℕ) → t ≤ bound → sum (drop t line) ≡ sum_by (price_from kind j t) prices
  pub before : (e : ℕ) → e ≤ bound → sum (take e line) ≡ sum_by (price_before kind j e) prices

-- the lists of numbers with a price added at its place, if it has one
abbrev pub with_price : Option Place → ℕ → ℕ → List (List ℕ) → List (List ℕ)
with_price None bound price lines = lines
with_price (Some w) bound price lines =
    let line = get_or lines w.line [] in
    set lines w.line (set line (min w.time bound) (get_or line (min w.time bound) 0 + price))

-- a list of numbers summed up at t: from t on for what counts from then on, before t for the others
abbrev pub summed : SumKind → List ℕ → ℕ → ℕ
summed Begun xs t = sum (drop t xs)
summed Ended xs t = sum (take t xs)
summed Used xs t = sum (take t xs)
summed Consumed xs t = sum (drop t xs)

-- of each line the sum of the prices at each time up to the bound
abbrev pub AreSums : SumKind → ℕ → ℕ → List Price → List (List ℕ) → Type 0
AreSums kind bound count prices lines = (j t : ℕ) → j < count → t ≤ bound → get_or (get_or lines j []) t 0 ≡ sum_by (price_in kind j t) prices
