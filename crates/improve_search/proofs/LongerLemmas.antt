-- Schedules that are no longer than others.
use Rattle.std.proofs.Common.{◌≤◌, arith, Option, Some, None}
use Rattle.mrcpsp.specs.Project.{ProjectData}
use Rattle.mrcpsp.specs.Schedule.{ScheduleData, makespan}
use Rattle.improve_search.specs.LocalSearch.{IsNoLonger}

pub longer_self : (p : ProjectData) (one : Option ScheduleData) → IsNoLonger p one one
longer_self p None = tt
longer_self p (Some one) = omega arith

pub longer_then : (p : ProjectData) (one other third : Option ScheduleData) → IsNoLonger p one other → IsNoLonger p other third → IsNoLonger p one third
longer_then p None other third a b = tt
longer_then p (Some one) None third a b = absurd a
longer_then p (Some one) (Some other) None a b = absurd b
longer_then p (Some one) (Some other) (Some third) a b =
    let x : makespan p other ≤ makespan p one = a in
    let y : makespan p third ≤ makespan p other = b in
    omega arith
