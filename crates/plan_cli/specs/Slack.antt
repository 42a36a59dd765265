-- How far an activity alone can move later (the free float of Kelley and Walker 1959). Resources are
-- not looked at.
use Rattle.std.specs.Prelude.{◌≡◌, ℕ, ◌+◌, ◌<◌, ◌≤◌, true}
use Rattle.mrcpsp.specs.Project.{ProjectData, size, precedes}
use Rattle.mrcpsp.specs.Schedule.{ScheduleData, start_of, finish, makespan}

-- moved d periods later, activity j still ends within the makespan, and before each of the first n
-- activities that is a successor of it
pub record MayMove (p : ProjectData) (s : ScheduleData) (j n d : ℕ) : Type 0 where
  pub within : finish p s j + d ≤ makespan p s
  pub before : (k : ℕ) → k < n → precedes p j k ≡ true → finish p s j + d ≤ start_of s k

-- d is the most periods that activity j can move later, by the first n activities
pub record IsSlackBy (p : ProjectData) (s : ScheduleData) (j n d : ℕ) : Type 0 where
  pub may : MayMove p s j n d
  pub most : (e : ℕ) → MayMove p s j n e → e ≤ d

-- the slack of activity j: all other activities stay where they are
abbrev pub IsSlack : ProjectData → ScheduleData → ℕ → ℕ → Type 0
IsSlack p s j d = IsSlackBy p s j (size p) d
