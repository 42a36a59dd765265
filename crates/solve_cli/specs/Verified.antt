-- What a verified schedule is, and why a text is of none.
use Rattle.std.specs.Prelude.{◌≡◌, ℕ, ◌<◌, ◌≤◌, ⊤, List, length, Ok}
use Rattle.mrcpsp.specs.Project.{ProjectData}
use Rattle.mrcpsp.specs.Schedule.{ScheduleData, IsFeasible, makespan}
use Rattle.mrcpsp.specs.Breach.{HasShape, IsFirstBreach}
use Rattle.mrcpsp.specs.declared.breach.Breach.{Breach}
use Rattle.psplib_mm.specs.Gives.{Fails}
use Rattle.psplib_mm.specs.Reading.{reading}
use Rattle.schedule_files.specs.Places.{IsUntold}
use Rattle.schedule_files.specs.ScheduleText.{Tells}
use Rattle.schedule_files.specs.declared.reading.TheConstants.{MOST_BYTES}
use Rattle.solve_cli.specs.declared.verification.Verified.{Verified}
use Rattle.solve_cli.specs.declared.fault.VerifyFault.{VerifyFault}
use Rattle.solve_cli.specs.declared.fault.VerifyFault.TheVariants as fault

-- the file is the project, and the text writes a feasible schedule of it, of this makespan. No
-- start is above period 1,000,000,000
pub record IsVerified (file text : List ℕ) (v : Verified) : Type 0 where
  pub read : reading file ≡ Ok v.project
  pub told : Tells text v.schedule
  pub shape : HasShape v.project v.schedule
  pub feasible : IsFeasible v.project v.schedule
  pub length : v.makespan ≡ makespan v.project v.schedule

-- the file is a project
pub record IsFile (file : List ℕ) : Type 0 where
  pub project : ProjectData
  pub read : reading file ≡ Ok project

-- the file is a project, and b is the first breach of the text's schedule
pub record IsToldBroken (file text : List ℕ) (b : Breach) : Type 0 where
  pub project : ProjectData
  pub schedule : ScheduleData
  pub read : reading file ≡ Ok project
  pub told : Tells text schedule
  pub first : IsFirstBreach project schedule b

-- why a file and a text are no verified schedule. A text without a schedule holds none
abbrev pub IsAtFault : List ℕ → List ℕ → VerifyFault → Type 0
IsAtFault file text (fault.File f) = Fails f (reading file)
IsAtFault file text fault.Words = IsFile file × (length text ≤ MOST_BYTES) × IsUntold (Tells text)
IsAtFault file text fault.TooLong = IsFile file × (MOST_BYTES < length text)
IsAtFault file text (fault.Breach b) = IsToldBroken file text b
IsAtFault file text fault.NoMemory = ⊤
