-- The best schedule that was checked.
use Rattle.std.specs.Prelude.{◌≡◌, ℕ, Option, Some, None, option_map, IfSome}
use Rattle.mrcpsp.specs.Project.{ProjectData}
use Rattle.mrcpsp.specs.Schedule.{ScheduleData, IsFeasible, makespan}
use Rattle.improve_search.specs.declared.best.BestChecked.{BestChecked}
use Rattle.improve_search.specs.declared.best.BestChecked.TheVariants.{Unknown, Known}

-- the best schedule, if there is one
abbrev pub best_in : BestChecked → Option ScheduleData
best_in (Unknown room other) = None
best_in (Known schedule length room) = Some schedule

-- the makespan that is kept with it
abbrev pub length_in : BestChecked → Option ℕ
length_in (Unknown room other) = None
length_in (Known schedule length room) = Some length

-- the schedule is feasible, and the number kept with it is its makespan
pub record IsKept (p : ProjectData) (b : BestChecked) : Type 0 where
  pub feasible : IfSome (best_in b) (IsFeasible p)
  pub length : length_in b ≡ option_map (makespan p) (best_in b)
