-- Choices too dear for the others: with an activity's choice in place of its cheapest, all
-- activities together pay more than the supply.
use Rattle.std.specs.Prelude.{◌≡◌, ℕ, ◌+◌, ◌<◌, ◌≤◌, Bool, ◌&&◌, ◌==◌, nat_lt, List, length, get_or, sum, Option, Some}
use Rattle.mrcpsp.specs.Project.{ProjectData, size, mode_count}
use Rattle.schedule_prices.specs.declared.row.Price.{Price}
use Rattle.schedule_prices.specs.Costs.{CostsData}
use Rattle.schedule_prices.specs.Rows.{cost, supply}
use Rattle.schedule_prices.specs.Prices.{cheapest}

-- whether a mode and a start are those of one choice
abbrev pub is_choice : ℕ → ℕ → ℕ → ℕ → Bool
is_choice m t k u = (k == m) && (u == t)

-- the least numbers of f 0 to f (n - 1), none missing, together at most a limit
pub record AreLeast (f : ℕ → Option ℕ) (n limit : ℕ) (least : List ℕ) : Type 0 where
  pub size : length least ≡ n
  pub each : (j : ℕ) → j < n → f j ≡ Some (get_or least j 0)
  pub within : sum least ≤ limit

-- the least costs of all activities, together at most the supply
abbrev pub AreCheapest : ProjectData → ℕ → (ℕ → ℕ → ℕ → Bool) → List Price → List ℕ → Type 0
AreCheapest p bound barred prices least = AreLeast (cheapest p bound barred prices) (size p) (supply p prices) least

-- whether a mode exists, and costs more than `most` from a start
abbrev pub is_above : CostsData → ℕ → ℕ → ℕ → ℕ → Bool
is_above c most j m t = nat_lt m (mode_count c.project j) && nat_lt most (cost c.project c.prices j m t)

-- whether a choice costs more above its activity's least than the least costs leave of the supply
unfoldable pub is_dear : ProjectData → List Price → List ℕ → ℕ → ℕ → ℕ → Bool
is_dear p prices least j m t = nat_lt j (size p) && (nat_lt m (mode_count p j) && nat_lt (supply p prices + get_or least j 0) (sum least + cost p prices j m t))
