-- Priced rows: rows of the time-indexed model of a project (Christofides, Alvarez-Valdes and
-- Tamarit 1987), each with a price (Möhring, Schulz, Stork and Uetz 2003). A feasible schedule
-- keeps each row, so it pays at most the supply.
use Rattle.std.specs.Prelude.{◌≡◌, ℕ, ◌+◌, ◌*◌, ◌≤◌, Bool, true, cond, ◌&&◌, ◌==◌, nat_le, nat_lt, List, sum_by}
use Rattle.std.specs.List.{list_all}
use Rattle.mrcpsp.specs.Numbers.{sum_below}
use Rattle.mrcpsp.specs.Project.{ProjectData, size, renewables, nonrenewables, duration, consumption, capacity, stock, precedes}
use Rattle.mrcpsp.specs.Schedule.{ScheduleData, IsFeasible, mode_of, start_of, load}
use Rattle.schedule_prices.specs.declared.row.PricedRow.{PricedRow}
use Rattle.schedule_prices.specs.declared.row.PricedRow.TheVariants.{Use, Stock, Before}
use Rattle.schedule_prices.specs.declared.row.Price.{Price}

-- what activity j, started in mode m at t, takes of a row: its use in period u; its consumption;
-- one if it is k and has started by u, and one if it is i and is not over by u
abbrev pub amount : ProjectData → PricedRow → ℕ → ℕ → ℕ → ℕ
amount p (Use r u) j m t = load p r u j m t
amount p (Stock k) j m t = consumption p j m k
amount p (Before i k u) j m t = cond ((j == k) && nat_le t u) 1 0 + cond ((j == i) && nat_lt u (t + duration p j m)) 1 0

-- what all activities together may take of a row
abbrev pub limit : ProjectData → PricedRow → ℕ
limit p (Use r u) = capacity p r
limit p (Stock k) = stock p k
limit p (Before i k u) = 1

-- whether the row is of a resource of the project, or of a precedence
abbrev pub is_row : ProjectData → PricedRow → Bool
is_row p (Use r u) = nat_lt r (renewables p)
is_row p (Stock k) = nat_lt k (nonrenewables p)
is_row p (Before i k u) = nat_lt i (size p) && (nat_lt k (size p) && precedes p i k)

-- what activity j, started in mode m at t, pays
unfoldable pub cost : ProjectData → List Price → ℕ → ℕ → ℕ → ℕ
cost p prices j m t = sum_by (λ x. x.price * amount p x.row j m t) prices

-- what all activities together may pay
unfoldable pub supply : ProjectData → List Price → ℕ
supply p prices = sum_by (λ x. x.price * limit p x.row) prices

-- whether all rows are of the project
abbrev pub are_rows : ProjectData → List Price → Bool
are_rows p prices = list_all (λ x. is_row p x.row) prices

-- what the first n activities of a schedule take, and pay
abbrev pub taken : ProjectData → ScheduleData → PricedRow → ℕ → ℕ
taken p s row n = sum_below (λ j. amount p row j (mode_of s j) (start_of s j)) n

abbrev pub paid : ProjectData → ScheduleData → List Price → ℕ → ℕ
paid p s prices n = sum_below (λ j. cost p prices j (mode_of s j) (start_of s j)) n

-- a feasible schedule keeps each row
abbrev pub EachKeepsRows : Type 0
EachKeepsRows = (p : ProjectData) (s : ScheduleData) (row : PricedRow) → IsFeasible p s → is_row p row ≡ true → taken p s row (size p) ≤ limit p row

-- a feasible schedule pays at most the supply
abbrev pub EachPaysAtMostSupply : Type 0
EachPaysAtMostSupply = (p : ProjectData) (s : ScheduleData) (prices : List Price) → IsFeasible p s → are_rows p prices ≡ true → paid p s prices (size p) ≤ supply p prices
