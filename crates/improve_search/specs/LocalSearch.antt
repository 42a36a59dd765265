-- A search that looks for better schedules.
use Rattle.std.specs.Prelude.{ℕ, ◌-◌, ◌≤◌, Bool, false, ◌||◌, nat_le, nat_lt, Option, Some, None, IsSomeAnd}
use Rattle.mrcpsp.specs.Project.{ProjectData}
use Rattle.mrcpsp.specs.Schedule.{ScheduleData, makespan}
use Rattle.mrcpsp.specs.Values.{bound}
use Rattle.improve_search.specs.declared.local_search.TheConstants.{MOST_OF_STEP}

-- a search: its project, the most schedules that it may generate, how many it has generated, and
-- the best of them
pub record LocalSearchData : Type 0 where
  pub project : ProjectData
  pub most : ℕ
  pub spent : ℕ
  pub best : Option ScheduleData

-- a search of the project that has generated nothing yet
abbrev pub fresh : ProjectData → ℕ → LocalSearchData
fresh p most = record { project = p; most = most; spent = 0; best = None }

-- if there is one schedule, there is another one that is no longer
abbrev pub IsNoLonger : ProjectData → Option ScheduleData → Option ScheduleData → Type 0
IsNoLonger p None other = Unit {0}
IsNoLonger p (Some one) other = IsSomeAnd other (λ s. makespan p s ≤ makespan p one)

-- whether there is a best schedule, as short as the longest chain by shortest durations
abbrev pub is_shortest : ProjectData → Option ScheduleData → Bool
is_shortest p None = false
is_shortest p (Some s) = nat_le (makespan p s) (bound p)

-- whether the search generates no more schedules: its best is as short as the longest chain, or
-- fewer are left than a candidate may need
abbrev pub is_over : LocalSearchData → Bool
is_over s = is_shortest s.project s.best || nat_lt (s.most - s.spent) MOST_OF_STEP
