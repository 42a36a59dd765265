-- A schedule and a number of periods as JSON.
use Rattle.std.specs.Prelude.{ℕ, ◌+◌, ◌==◌, cond, List, [], ◌∷◌, ◌++◌, Option, Some, None, codes, decimal}
use Rattle.mrcpsp.specs.Schedule.{ScheduleData}

-- the object of activity j
abbrev pub place_json : ℕ → ℕ → ℕ → List ℕ
place_json j mode start = codes "{\"activity\":" ++ decimal j ++ codes ",\"mode\":" ++ decimal mode ++ codes ",\"start\":" ++ decimal start ++ codes "}"

-- the text before the object of an activity behind i others
abbrev pub comma_before : ℕ → List ℕ
comma_before i = cond (i == 0) [] (codes ",")

-- the object of an activity behind i others
abbrev pub next_json : ℕ → ℕ → ℕ → List ℕ
next_json i mode start = comma_before i ++ place_json (i + 1) mode start

-- the objects of activities behind i others
abbrev pub places_json : ℕ → List ℕ → List ℕ → List ℕ
places_json i [] starts = []
places_json i (mode ∷ modes) [] = []
places_json i (mode ∷ modes) (start ∷ starts) = next_json i mode start ++ places_json (i + 1) modes starts

-- the array of a schedule, or `null`
abbrev pub schedule_json : Option ScheduleData → List ℕ
schedule_json None = codes "null"
schedule_json (Some schedule) = codes "[" ++ places_json 0 schedule.modes schedule.starts ++ codes "]"

-- a number, or `null`
abbrev pub number_json : Option ℕ → List ℕ
number_json None = codes "null"
number_json (Some number) = decimal number
