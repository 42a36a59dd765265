-- Lower bounds of the makespan.
use Rattle.std.specs.Prelude.{ℕ, ◌≤◌}
use Rattle.mrcpsp.specs.Project.{ProjectData}
use Rattle.mrcpsp.specs.Schedule.{ScheduleData, IsFeasible, makespan}

-- no feasible schedule of the project takes fewer periods
abbrev pub TakesAtLeast : ProjectData → ℕ → Type 0
TakesAtLeast p periods = (s : ScheduleData) → IsFeasible p s → periods ≤ makespan p s
