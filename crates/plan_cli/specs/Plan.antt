-- What a plan is, and why a text has none.
use Rattle.std.specs.Prelude.{◌≡◌, ℕ, ◌<◌, ◌≤◌, ⊤, List, length, Ok}
use Rattle.mrcpsp.specs.Project.{ProjectData}
use Rattle.mrcpsp.specs.Schedule.{ScheduleData}
use Rattle.mrcpsp.specs.Breach.{HasShape, HasModes, IsFirstBreach}
use Rattle.mrcpsp.specs.declared.breach.Breach.{Breach}
use Rattle.psplib_mm.specs.Gives.{Fails}
use Rattle.psplib_mm.specs.Reading.{reading}
use Rattle.schedule_files.specs.ScheduleText.{Tells}
use Rattle.schedule_files.specs.declared.reading.TheConstants.{MOST_BYTES}
use Rattle.plan_cli.specs.Moves.{IsVerdict}
use Rattle.plan_cli.specs.declared.plan.Plan.{Plan}
use Rattle.plan_cli.specs.declared.plan.PlanFault.{PlanFault}
use Rattle.plan_cli.specs.declared.plan.PlanFault.TheVariants as fault

-- the plan is this schedule, with a mode and a start for each activity, and its verdict is true
pub record IsPlanned (p : ProjectData) (s : ScheduleData) (plan : Plan) : Type 0 where
  pub same : plan.schedule ≡ s
  pub shape : HasShape p plan.schedule
  pub modes : HasModes p plan.schedule
  pub verdict : IsVerdict p plan.schedule plan.breach

-- the text has the plan's schedule
pub record IsPlan (p : ProjectData) (text : List ℕ) (plan : Plan) : Type 0 where
  pub told : Tells text plan.schedule
  pub is : IsPlanned p plan.schedule plan

-- a schedule with a mode and a start for each activity of the project
abbrev pub IsWhole : ProjectData → ScheduleData → Type 0
IsWhole p s = HasShape p s × HasModes p s

-- the fault is the first breach of a schedule that lacks a mode or a start
abbrev pub IsBroken : ProjectData → ScheduleData → PlanFault → Type 0
IsBroken p s (fault.File f) = ⊥
IsBroken p s fault.Words = ⊥
IsBroken p s fault.TooLong = ⊥
IsBroken p s (fault.Breach b) = IsFirstBreach p s b × (IsWhole p s → ⊥)
IsBroken p s fault.NoMemory = ⊥

-- why a text has no plan of a project: it has no schedule, or one that lacks a mode or a start
abbrev pub IsUnplanned : ProjectData → List ℕ → PlanFault → Type 0
IsUnplanned p text (fault.File f) = ⊥
IsUnplanned p text fault.Words = (length text ≤ MOST_BYTES) × ((s : ScheduleData) → Tells text s → ⊥)
IsUnplanned p text fault.TooLong = MOST_BYTES < length text
IsUnplanned p text (fault.Breach b) = (s : ScheduleData) × Tells text s × IsFirstBreach p s b × (IsWhole p s → ⊥)
IsUnplanned p text fault.NoMemory = ⊤

-- P holds of the project that the file is
abbrev pub OfProject : List ℕ → (ProjectData → Type 0) → Type 0
OfProject file P = (p : ProjectData) × (reading file ≡ Ok p) × P p

-- why a file and a text have no plan
abbrev pub IsNoPlan : List ℕ → List ℕ → PlanFault → Type 0
IsNoPlan file text (fault.File f) = Fails f (reading file)
IsNoPlan file text fault.Words = OfProject file (λ p. IsUnplanned p text fault.Words)
IsNoPlan file text fault.TooLong = OfProject file (λ p. IsUnplanned p text fault.TooLong)
IsNoPlan file text (fault.Breach b) = OfProject file (λ p. IsUnplanned p text (fault.Breach b))
IsNoPlan file text fault.NoMemory = ⊤

-- b is the first breach of the schedule that the text has
abbrev pub IsToldBroken : ProjectData → List ℕ → Breach → Type 0
IsToldBroken p text b = (s : ScheduleData) × Tells text s × IsFirstBreach p s b

-- why a file and a text have no feasible plan
abbrev pub IsAtFault : List ℕ → List ℕ → PlanFault → Type 0
IsAtFault file text (fault.File f) = Fails f (reading file)
IsAtFault file text fault.Words = OfProject file (λ p. IsUnplanned p text fault.Words)
IsAtFault file text fault.TooLong = OfProject file (λ p. IsUnplanned p text fault.TooLong)
IsAtFault file text (fault.Breach b) = OfProject file (λ p. IsToldBroken p text b)
IsAtFault file text fault.NoMemory = ⊤
