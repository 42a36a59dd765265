-- A lower bound of the makespan: the critical path (Kelley and Walker 1959).
use Rattle.std.specs.Prelude.{◌≤◌, IsTrue}
use Rattle.mrcpsp.specs.Project.{ProjectData, is_project}
use Rattle.mrcpsp.specs.Schedule.{ScheduleData, IsFeasible, makespan}
use Rattle.mrcpsp.specs.Values.{bound}

-- no feasible schedule of a project is shorter than its bound
abbrev pub NoneIsBelowBound : Type 0
NoneIsBelowBound = (p : ProjectData) (s : ScheduleData) → IsTrue (is_project p) → IsFeasible p s → bound p ≤ makespan p s
