-- The places of a schedule's activities: a number, a mode and a start for each.
use Rattle.std.specs.Prelude.{◌≡◌, ℕ, ◌+◌, ◌<◌, min, List, [], ◌∷◌, length, get_or, Option, Some, None}
use Rattle.std.specs.List.Sorted.{IsPermutation}
use Rattle.mrcpsp.specs.Schedule.{ScheduleData}
use Rattle.schedule_files.specs.declared.places.ScheduleEntry.{ScheduleEntry}

-- the next step reads what this one gives; a missing part ends the reading
infixl 10 ◌>>=◌
abbrev pub ◌>>=◌ : {A B : Type 0} → Option A → (A → Option B) → Option B
None >>= f = None
(Some x) >>= f = f x

-- a number above 4,294,967,295 counts as that: it is then no mode of an activity, and too late a
-- start
abbrev pub counted : ℕ → ℕ
counted n = min 4294967295 n

-- the places of a schedule's activities, from number j on
abbrev pub placed_from : ℕ → List ℕ → List ℕ → List ScheduleEntry
placed_from j [] starts = []
placed_from j (mode ∷ modes) [] = []
placed_from j (mode ∷ modes) (start ∷ starts) = record { activity = j; mode = mode; start = start } ∷ placed_from (j + 1) modes starts

-- the places are a mode and a start for each activity, in any order
pub record ArePlaces (places : List ScheduleEntry) (s : ScheduleData) : Type 0 where
  pub even : length s.modes ≡ length s.starts
  pub whole : IsPermutation places (placed_from 1 s.modes s.starts)

-- the first place whose number is not the next one, counted from 1
pub record IsStrayAt (places : List ScheduleEntry) (place : ℕ) : Type 0 where
  pub inside : place < length places
  pub before : (k : ℕ) (d : ScheduleEntry) → k < place → (get_or places k d).activity ≡ k + 1
  pub here : (d : ScheduleEntry) → (get_or places place d).activity ≡ place + 1 → ⊥

-- there is no schedule of this form
abbrev pub IsUntold : (ScheduleData → Type 0) → Type 0
IsUntold Told = (s : ScheduleData) → Told s → ⊥
