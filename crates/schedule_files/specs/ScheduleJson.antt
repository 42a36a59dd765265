-- A schedule as JSON (RFC 8259): an array with an object for each activity, in any order, or an
-- object with such an array as `schedule`.
use Rattle.std.specs.Prelude.{◌≡◌, ◌⊎◌, ℕ, ◌+◌, ◌<◌, ◌≤◌, List, [], ◌∷◌, length, drop, get_or, Option, Some, None, option_and_then, option_map, codes, IsUtf8}
use Rattle.serde_json.specs.Data.{Data, Items, no_items, item}
use Rattle.serde_json.specs.Read.{read}
use Rattle.serde_json.specs.Find.{get, as_number, as_u64, as_array}
use Rattle.mrcpsp.specs.Schedule.{ScheduleData}
use Rattle.schedule_files.specs.Places.{◌>>=◌, counted, ArePlaces, IsUntold}
use Rattle.schedule_files.specs.declared.places.ScheduleEntry.{ScheduleEntry}

-- the natural number at a key
abbrev pub number_at : List ℕ → Data → Option ℕ
number_at key value = option_map counted (option_and_then as_u64 (option_and_then as_number (get key value)))

-- an activity with its mode and its start
abbrev pub place_of : Data → Option ScheduleEntry
place_of value = do
  activity ← number_at (codes "activity") value
  mode ← number_at (codes "mode") value
  start ← number_at (codes "start") value
  Some (record { activity = activity; mode = mode; start = start })

-- the places of an array
abbrev pub places_of : Items → Option (List ScheduleEntry)
places_of no_items = Some []
places_of (item value values) = do
  place ← place_of value
  places ← places_of values
  Some (place ∷ places)

-- the array at the key `schedule`, or else the value itself as an array
abbrev pub array_at : Data → Option Data → Option Items
array_at value None = as_array value
array_at value (Some at) = as_array at

-- the array of a value
abbrev pub array_of : Data → Option Items
array_of value = array_at value (get (codes "schedule") value)

-- the text is the JSON of the schedule's places
pub record IsJsonOf (text : List ℕ) (s : ScheduleData) : Type 0 where
  pub utf8 : IsUtf8 text
  pub value : Data
  pub read : read text ≡ Some value
  pub places : List ScheduleEntry
  pub told : option_and_then places_of (array_of value) ≡ Some places
  pub each : ArePlaces places s

-- where the last line of a text begins: at the text's beginning or behind a line feed, and a line
-- feed behind it ends the text
pub record BeginsLastLine (text : List ℕ) (start : ℕ) : Type 0 where
  pub inside : start < length text
  pub behind : (before : ℕ) → start ≡ before + 1 → get_or text before 0 ≡ 10
  pub last : (k : ℕ) → start ≤ k → k + 1 < length text → get_or text k 0 ≡ 10 → ⊥

-- the text is the JSON of the schedule; or, if it is no schedule's, its last line is
abbrev pub TellsJson : List ℕ → ScheduleData → Type 0
TellsJson text s = IsJsonOf text s ⊎ (IsUntold (IsJsonOf text) × ((start : ℕ) × BeginsLastLine text start × IsJsonOf (drop start text) s))
