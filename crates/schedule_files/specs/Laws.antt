-- A text holds at most one schedule. A text that ends with a schedule's words holds it, and so does
-- the schedule's JSON.
use Rattle.std.specs.Prelude.{◌≡◌, ℕ, ◌<◌, ◌≤◌, ◌++◌, ◌∷◌, [], List, length, Some}
use Rattle.mrcpsp.specs.Schedule.{ScheduleData}
use Rattle.schedule_json.specs.ScheduleJson.{schedule_json}
use Rattle.schedule_files.specs.ScheduleText.{Tells, schedule_text}
use Rattle.schedule_files.specs.declared.reading.TheConstants.{MOST_BYTES}

-- schedules that a text holds are equal
abbrev pub TellsOne : Type 0
TellsOne = (text : List ℕ) (s t : ScheduleData) → Tells text s → Tells text t → s ≡ t

-- each number of a list is at most 4,294,967,295
abbrev pub AreCounted : List ℕ → Type 0
AreCounted [] = Unit {0}
AreCounted (n ∷ ns) = (n ≤ 4294967295) × AreCounted ns

-- a schedule that can be written: a mode and a start for each activity, at least one, of 32 bits
pub record IsWritable (s : ScheduleData) : Type 0 where
  pub even : length s.modes ≡ length s.starts
  pub some : 0 < length s.modes
  pub few : length s.modes ≤ 4294967295
  pub modes : AreCounted s.modes
  pub starts : AreCounted s.starts

-- a text of any front, a schedule's words and a line feed holds the schedule, if it is short
abbrev pub WordsAreTold : Type 0
WordsAreTold = (front : List ℕ) (s : ScheduleData) → IsWritable s → length (front ++ (schedule_text s ++ 10 ∷ [])) ≤ MOST_BYTES → Tells (front ++ (schedule_text s ++ 10 ∷ [])) s

-- the JSON array of a schedule and a line feed tell the schedule, if they are short
abbrev pub ArrayIsTold : Type 0
ArrayIsTold = (s : ScheduleData) → IsWritable s → length (schedule_json (Some s) ++ 10 ∷ []) ≤ MOST_BYTES → Tells (schedule_json (Some s) ++ 10 ∷ []) s
