-- The best schedule that a search keeps.
use Rattle.std.specs.Prelude.{◌≡◌, Bool, true, false, Option, Some, None}
use Rattle.mrcpsp.specs.Project.{ProjectData, size}
use Rattle.mrcpsp.specs.Schedule.{ScheduleData, makespan}
use Rattle.serial_pass.specs.Pass.{HasRoom}
use Rattle.sample_search.specs.declared.best.BestPass.{BestPass}
use Rattle.sample_search.specs.declared.best.BestPass.TheVariants.{Unknown, Known, Taken}

-- the best schedule, if it is known and was not taken
abbrev pub best_in : BestPass → Option ScheduleData
best_in (Unknown room) = None
best_in (Known schedule makespan) = Some schedule
best_in Taken = None

-- whether the best schedule was taken
abbrev pub is_taken : BestPass → Bool
is_taken (Unknown room) = false
is_taken (Known schedule makespan) = false
is_taken Taken = true

-- there is room for each activity, and the number kept with a schedule is its makespan
abbrev pub IsKept : ProjectData → BestPass → Type 0
IsKept p (Unknown room) = HasRoom (size p) room
IsKept p (Known schedule length) = HasRoom (size p) schedule × (length ≡ makespan p schedule)
IsKept p Taken = Unit {0}
