-- What each mode takes: a row for each mode of each activity, activity by activity.
use Rattle.std.specs.Prelude.{◌≡◌, ℕ, ◌+◌, ◌<◌, true, false, List, [], length, get_or}
use Rattle.mrcpsp.specs.declared.limits.TheConstants.{MOST_RESOURCES}
use Rattle.mrcpsp.specs.Numbers.{sum_below}
use Rattle.mrcpsp.specs.Project.{ProjectData, size, mode_count, duration, consumption}
use Rattle.mrcpsp.specs.Values.{least, tail}
use Rattle.mrcpsp.specs.Placed.{is_executable}
use Rattle.tree_search.specs.Front.{AsksFor}
use Rattle.tree_search.specs.declared.table.Row.{Row}
use Rattle.tree_search.specs.declared.table.ModeRows.{ModeRows}
use Rattle.tree_search.specs.declared.table.Table.{Table}
use Rattle.tree_search.specs.declared.table.TheConstants.{NEVER}

-- the default for a missing row
abbrev pub no_row : Row
no_row = record { extra = []; request = []; duration = 0; reach = 0 }

-- the row of mode m of activity j: its consumption beyond the activity's least one, its requests, or
-- nothing if it takes no time, its duration, and that with the tail. A mode that is not executable
-- reaches beyond all times
pub record IsLine (p : ProjectData) (j m : ℕ) (row : Row) : Type 0 where
  pub extra : (r : ℕ) → r < MOST_RESOURCES → get_or row.extra r 0 + least p j r ≡ consumption p j m r
  pub request : AsksFor p j m row.request
  pub reach : is_executable p j m ≡ true → row.reach ≡ duration p j m + tail p j
  pub never : is_executable p j m ≡ false → row.reach ≡ NEVER
  pub duration : row.duration ≡ duration p j m

-- the modes of all activities before j
unfoldable pub modes_before : ProjectData → ℕ → ℕ
modes_before p j = sum_below (mode_count p) j

-- the default for a missing activity
abbrev pub no_places : ModeRows
no_places = record { first = 0; count = 0 }

-- the rows of the first activities, and where those of each are
pub record AreLines (p : ProjectData) (bound : ℕ) (rows : List Row) (places : List ModeRows) : Type 0 where
  pub count : length rows ≡ modes_before p bound
  pub all : length places ≡ bound
  pub first : (j : ℕ) → j < bound → (get_or places j no_places).first ≡ modes_before p j
  pub several : (j : ℕ) → j < bound → (get_or places j no_places).count ≡ mode_count p j
  pub each : (j m : ℕ) → j < bound → m < mode_count p j → IsLine p j m (get_or rows (modes_before p j + m) no_row)

-- the rows of the first modes of activity j, behind those of all activities before it
pub record AreSome (p : ProjectData) (j bound : ℕ) (earlier rows : List Row) : Type 0 where
  pub count : length rows ≡ length earlier + bound
  pub kept : (k : ℕ) → k < length earlier → get_or rows k no_row ≡ get_or earlier k no_row
  pub each : (m : ℕ) → m < bound → IsLine p j m (get_or rows (length earlier + m) no_row)

-- the rows of all activities, and where those of each are
abbrev pub IsLines : ProjectData → Table → Type 0
IsLines p t = AreLines p (size p) t.rows.items t.places.items

-- the rows of the modes of activity j from one on
pub record AreModes (p : ProjectData) (j from end : ℕ) (rows : List Row) : Type 0 where
  pub count : length rows + from ≡ end
  pub each : (k : ℕ) → k < length rows → IsLine p j (from + k) (get_or rows k no_row)
