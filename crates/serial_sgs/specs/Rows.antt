-- What each mode takes, as a row of `MOST_RESOURCES` numbers: 0 for a resource that is not there.
use Rattle.std.specs.Prelude.{◌≡◌, ℕ, ◌+◌, ◌<◌, false, List, [], length, get_or}
use Rattle.mrcpsp.specs.declared.limits.TheConstants.{MOST_RESOURCES}
use Rattle.mrcpsp.specs.Project.{ProjectData, size, mode_count, duration, request, consumption, capacity, stock}
use Rattle.mrcpsp.specs.Values.{least}
use Rattle.mrcpsp.specs.Placed.{is_executable}
use Rattle.serial_sgs.specs.declared.rows.ModeRow.{ModeRow}
use Rattle.serial_sgs.specs.declared.rows.Rows.{Rows}

-- the default for a missing mode
abbrev pub no_row : ModeRow
no_row = record { extra = []; request = []; duration = 0; is_executable = false }

-- the row of mode m of activity j: its requests, its duration, and its consumption beyond the
-- activity's least one
pub record IsRow (p : ProjectData) (j m : ℕ) (row : ModeRow) : Type 0 where
  pub extra : (r : ℕ) → r < MOST_RESOURCES → get_or row.extra r 0 + least p j r ≡ consumption p j m r
  pub request : (r : ℕ) → r < MOST_RESOURCES → get_or row.request r 0 ≡ request p j m r
  pub duration : row.duration ≡ duration p j m
  pub executable : row.is_executable ≡ is_executable p j m

-- a row for each of the first modes of activity j
pub record AreRows (p : ProjectData) (j bound : ℕ) (rows : List ModeRow) : Type 0 where
  pub count : length rows ≡ bound
  pub each : (m : ℕ) → m < bound → IsRow p j m (get_or rows m no_row)

-- rows for each of the first activities
pub record HasRows (p : ProjectData) (bound : ℕ) (table : List (List ModeRow)) : Type 0 where
  pub count : length table ≡ bound
  pub each : (j : ℕ) → j < bound → AreRows p j (mode_count p j) (get_or table j [])

-- a row for each mode of each activity, and the capacity of each resource
pub record IsTable (p : ProjectData) (table : Rows) : Type 0 where
  pub rows : HasRows p (size p) table.rows.items
  pub capacities : (r : ℕ) → r < MOST_RESOURCES → get_or table.capacities r 0 ≡ capacity p r
  pub stocks : (r : ℕ) → r < MOST_RESOURCES → get_or table.stocks r 0 ≡ stock p r
