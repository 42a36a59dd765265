-- What `show` and `compare` write of the bytes that they read, and why they stop.
use Rattle.std.specs.Prelude.{◌≡◌, ℕ, Bool, List, Ok, None}
use Rattle.mrcpsp.specs.Project.{ProjectData}
use Rattle.mrcpsp.specs.Schedule.{IsFeasible}
use Rattle.psplib_mm.specs.Reading.{reading}
use Rattle.plan_cli.specs.Moves.{moves_text}
use Rattle.plan_cli.specs.Plan.{IsPlan, IsUnplanned, OfProject, IsNoPlan}
use Rattle.plan_cli.specs.Table.{IsTable}
use Rattle.plan_cli.specs.declared.layout.Layout.{Layout}
use Rattle.plan_cli.specs.declared.plan.Plan.{Plan}
use Rattle.plan_cli.specs.declared.output.CompareFault.{CompareFault}
use Rattle.plan_cli.specs.declared.output.CompareFault.TheVariants.{First, Second}

-- a table of the feasible schedule that the text has of the file's project
pub record IsShown (layout : Layout) (plain : Bool) (file text shown : List ℕ) : Type 0 where
  pub project : ProjectData
  pub read : reading file ≡ Ok project
  pub plan : Plan
  pub is : IsPlan project text plan
  pub feasible : IsFeasible project plan.schedule
  pub table : IsTable layout project plan.schedule plain shown

-- what differs between the schedules of two texts
pub record IsComparison (file text other told : List ℕ) : Type 0 where
  pub project : ProjectData
  pub read : reading file ≡ Ok project
  pub before : Plan
  pub is_before : IsPlan project text before
  pub after : Plan
  pub is_after : IsPlan project other after
  pub tells : told ≡ moves_text project before.schedule after.schedule before.breach after.breach

-- the text has a plan of the project
abbrev pub HasPlan : ProjectData → List ℕ → Type 0
HasPlan p text = (plan : Plan) × IsPlan p text plan

-- why two texts are not compared: the first has no plan, or else the second has none
abbrev pub IsCompareFault : List ℕ → List ℕ → List ℕ → CompareFault → Type 0
IsCompareFault file text other (First fault) = IsNoPlan file text fault
IsCompareFault file text other (Second fault) = OfProject file (λ p. HasPlan p text × IsUnplanned p other fault)
