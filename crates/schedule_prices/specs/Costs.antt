-- Prices at a project and a bound.
use Rattle.std.specs.Prelude.{◌≡◌, ℕ, true, ◌&&◌, nat_le, nat_lt, List}
use Rattle.mrcpsp.specs.Project.{ProjectData, is_project, size, renewables, nonrenewables}
use Rattle.schedule_prices.specs.declared.row.Price.{Price}
use Rattle.schedule_prices.specs.declared.place.SumKind.TheVariants.{Begun, Ended, Used, Consumed}
use Rattle.schedule_prices.specs.Sums.{place_of, price_at, AreSums}
use Rattle.schedule_prices.specs.Prices.{are_prices}

-- a project, a bound, and prices of rows of the project
pub record CostsData : Type 0 where
  pub project : ProjectData
  pub bound : ℕ
  pub prices : List Price

-- the price of a use of resource r from t on and before e
abbrev pub used_in : ℕ → ℕ → ℕ → Price → ℕ
used_in r t e x = price_at (place_of Used x.row) r (λ u. nat_le t u && nat_lt u e) x.price

-- prices of the project, and their sums over time up to the bound
pub record AreCosts (p : ProjectData) (bound : ℕ) (prices : List Price) (begun ended used consumed : List (List ℕ)) : Type 0 where
  pub project : is_project p ≡ true
  pub priced : are_prices p prices ≡ true
  pub begins : AreSums Begun bound (size p) prices begun
  pub ends : AreSums Ended bound (size p) prices ended
  pub uses : AreSums Used bound (renewables p) prices used
  pub consumes : AreSums Consumed bound (nonrenewables p) prices consumed
