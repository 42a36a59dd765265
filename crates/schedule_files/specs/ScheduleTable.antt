-- A schedule as a table of CSV (RFC 4180), as spreadsheets write it: with a comma, a semicolon or a
-- tab between cells, with cells in quotes, with a heading in any order of columns, or without one.
use Rattle.std.specs.Prelude.{◌≡◌, ◌<◌, ℕ, Bool, ◌||◌, length, List, [], ◌∷◌, get_or, map, Option, Some, None, ◌==◌, codes}
use Rattle.std.specs.Char.{to_ascii_lowercase}
use Rattle.std.specs.List.{filter, list_any, position, position_or_len}
use Rattle.std.specs.Option.{is_some}
use Rattle.std.specs.Str.{bytes_eq}
use Rattle.csv.specs.Reading.{AreRecords, default_config, strip_bom}
use Rattle.csv.specs.declared.parser.Config.{Config}
use Rattle.csv.specs.declared.parser.State.TheVariants as st
use Rattle.mrcpsp.specs.Schedule.{ScheduleData}
use Rattle.schedule_files.specs.Places.{◌>>=◌, ArePlaces}
use Rattle.schedule_files.specs.ScheduleRows.{has_digit, trimmed, number_in}
use Rattle.schedule_files.specs.declared.places.ScheduleEntry.{ScheduleEntry}
use Rattle.schedule_files.specs.declared.table.Columns.{Columns}

-- whether a byte may stand between two cells
abbrev pub is_mark : ℕ → Bool
is_mark b = (b == 44) || (b == 59) || (b == 9)

-- the first comma, semicolon or tab of a text, or a comma if it has none
abbrev pub mark_of : List ℕ → ℕ
mark_of text = get_or text (position_or_len is_mark text) 44

-- CSV with another mark between two cells
abbrev pub config_of : ℕ → Config
config_of mark = record default_config { delimiter = mark }

-- the rows are the records of the text, behind a byte order mark if it has one
abbrev pub AreRowsOf : List ℕ → List (List (List ℕ)) → Type 0
AreRowsOf text rows = AreRecords (config_of (mark_of text)) st.StartRecord (strip_bom text) rows

-- the cell in a column, or an empty one behind the row's end
abbrev pub cell_at : ℕ → List (List ℕ) → List ℕ
cell_at place cells = get_or cells place []

-- whether a cell has this name, in capital letters or not, with or without white space around it
abbrev pub is_named : List ℕ → List ℕ → Bool
is_named name cell = bytes_eq (map to_ascii_lowercase (trimmed cell)) name

-- the columns of a heading, if it has all three names
abbrev pub columns_of : List (List ℕ) → Option Columns
columns_of cells = do
  activity ← position (is_named (codes "activity")) cells
  mode ← position (is_named (codes "mode")) cells
  start ← position (is_named (codes "start")) cells
  Some (record { activity = activity; mode = mode; start = start })

-- the columns, the first three if there is no heading
abbrev pub or_first : Option Columns → Columns
or_first None = record { activity = 0; mode = 1; start = 2 }
or_first (Some columns) = columns

-- whether a row is of an activity: if there is a heading, it has a number in the activity's column;
-- if not, it has a digit
abbrev pub is_row : Option Columns → List (List ℕ) → Bool
is_row None cells = list_any has_digit cells
is_row (Some columns) cells = is_some (number_in (cell_at columns.activity cells))

-- the numbers in the columns of a row
abbrev pub place_in : Columns → List (List ℕ) → Option ScheduleEntry
place_in columns cells = do
  activity ← number_in (cell_at columns.activity cells)
  mode ← number_in (cell_at columns.mode cells)
  start ← number_in (cell_at columns.start cells)
  Some (record { activity = activity; mode = mode; start = start })

-- the places of these rows, if each is one
abbrev pub places_in : Columns → List (List (List ℕ)) → Option (List ScheduleEntry)
places_in columns [] = Some []
places_in columns (row ∷ rows) = do
  place ← place_in columns row
  places ← places_in columns rows
  Some (place ∷ places)

-- the places under a heading
abbrev pub places_under : Option Columns → List (List (List ℕ)) → Option (List ScheduleEntry)
places_under heading rows = places_in (or_first heading) (filter (is_row heading) rows)

-- the places of a table, whose first row may be a heading
abbrev pub table_places : List (List (List ℕ)) → Option (List ScheduleEntry)
table_places rows = places_under (columns_of (get_or rows 0 [])) rows

-- the rows of a table are the places of all activities, in any order
pub record TellsTable (text : List ℕ) (s : ScheduleData) : Type 0 where
  pub rows : List (List (List ℕ))
  pub are : AreRowsOf text rows
  pub places : List ScheduleEntry
  pub told : table_places rows ≡ Some places
  pub each : ArePlaces places s
  pub some : 0 < length s.modes
