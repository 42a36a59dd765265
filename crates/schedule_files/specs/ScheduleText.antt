-- The text of a schedule: for each activity a word of its number, mode and start, with colons
-- between them. Words with other white space, rows with commas, JSON and tables are read too.
use Rattle.std.specs.Prelude.{◌≡◌, ◌⊎◌, ℕ, ◌+◌, ◌<◌, ◌≤◌, List, [], ◌∷◌, ◌++◌, length, Some, codes, decimal}
use Rattle.mrcpsp.specs.Schedule.{ScheduleData}
use Rattle.schedule_files.specs.Places.{placed_from, ArePlaces, IsUntold}
use Rattle.schedule_files.specs.ScheduleJson.{TellsJson}
use Rattle.schedule_files.specs.ScheduleTable.{TellsTable}
use Rattle.schedule_files.specs.ScheduleRows.{words_of, rows_of, places_at}
use Rattle.schedule_files.specs.declared.places.ScheduleEntry.{ScheduleEntry}
use Rattle.schedule_files.specs.declared.reading.TheConstants.{MOST_BYTES}

-- the word of activity j behind a blank
abbrev pub place_text : ℕ → ℕ → ℕ → List ℕ
place_text j mode start = codes " " ++ decimal j ++ codes ":" ++ decimal mode ++ codes ":" ++ decimal start

-- the words of activities, from number j on
abbrev pub places_text : ℕ → List ℕ → List ℕ → List ℕ
places_text j [] starts = []
places_text j (mode ∷ modes) [] = []
places_text j (mode ∷ modes) (start ∷ starts) = place_text j mode start ++ places_text (j + 1) modes starts

-- the words of all activities
abbrev pub schedule_text : ScheduleData → List ℕ
schedule_text s = places_text 1 s.modes s.starts

-- the words of the text end with the places of all activities, in order
pub record TellsWords (text : List ℕ) (s : ScheduleData) : Type 0 where
  pub front : List (List ℕ)
  pub words : List (List ℕ)
  pub ends : words_of text ≡ front ++ words
  pub places : places_at 58 words ≡ Some (placed_from 1 s.modes s.starts)
  pub even : length s.modes ≡ length s.starts
  pub some : 0 < length s.modes

-- the rows of the text are the places of all activities, in any order
pub record TellsRows (text : List ℕ) (s : ScheduleData) : Type 0 where
  pub places : List ScheduleEntry
  pub rows : places_at 44 (rows_of text) ≡ Some places
  pub each : ArePlaces places s
  pub some : 0 < length s.modes

-- the text is JSON of the schedule; or, if it is no schedule's, a table of CSV
abbrev pub TellsJsonOrTable : List ℕ → ScheduleData → Type 0
TellsJsonOrTable text s = TellsJson text s ⊎ (IsUntold (TellsJson text) × TellsTable text s)

-- the words of the text tell the schedule; or, if they tell none, its rows do; or else it is JSON or
-- a table
abbrev pub TellsSomehow : List ℕ → ScheduleData → Type 0
TellsSomehow text s = TellsWords text s ⊎ (IsUntold (TellsWords text) × (TellsRows text s ⊎ (IsUntold (TellsRows text) × TellsJsonOrTable text s)))

-- a text of at most 1,048,576 bytes writes the schedule as words, as rows, as JSON or as a table
pub record Tells (text : List ℕ) (s : ScheduleData) : Type 0 where
  pub short : length text ≤ MOST_BYTES
  pub ways : TellsSomehow text s
