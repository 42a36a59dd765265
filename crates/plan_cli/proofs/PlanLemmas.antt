-- Why there is no plan, by what is known of the schedule and of the file.
use Rattle.std.proofs.Common.{◌≡◌, ℕ, List, Result, Ok, Err, IfOk, refl, sym, subst}
use Rattle.mrcpsp.specs.Project.{ProjectData}
use Rattle.mrcpsp.specs.Schedule.{ScheduleData}
use Rattle.psplib_mm.specs.Reading.{reading}
use Rattle.schedule_files.specs.ScheduleText.{Tells}
use Rattle.plan_cli.specs.Plan.{IsPlanned, IsPlan, IsBroken, IsUnplanned, IsNoPlan, IsAtFault}
use Rattle.plan_cli.specs.declared.plan.Plan.{Plan}
use Rattle.plan_cli.specs.declared.plan.PlanFault.{PlanFault}
use Rattle.plan_cli.specs.declared.plan.PlanFault.TheVariants as fault

-- the plan of a schedule that the text has
pub is_plan : (p : ProjectData) (s : ScheduleData) (text : List ℕ) (plan : Plan) → Tells text s → IsPlanned p s plan → IsPlan p text plan
is_plan p s text plan told is = record {
  told = subst (Tells text) (sym is.same) told;
  is = record { same = refl; shape = is.shape; modes = is.modes; verdict = is.verdict };
}

pub is_plan_ok : (p : ProjectData) (s : ScheduleData) (text : List ℕ) (r : Result Plan PlanFault) → Tells text s → IfOk r (IsPlanned p s) → IfOk r (IsPlan p text)
is_plan_ok p s text (Ok plan) told is = is_plan p s text plan told is
is_plan_ok p s text (Err f) told is = tt

pub unplanned : (p : ProjectData) (s : ScheduleData) (text : List ℕ) (f : PlanFault) → Tells text s → IsBroken p s f → IsUnplanned p text f
unplanned p s text (fault.File x) told b = b
unplanned p s text fault.Words told b = absurd b
unplanned p s text fault.TooLong told b = absurd b
unplanned p s text (fault.Breach x) told b = (s, told, b.0, b.1)
unplanned p s text fault.NoMemory told b = tt

pub at_fault : (file text : List ℕ) (p : ProjectData) (f : PlanFault) → reading file ≡ Ok p → IsUnplanned p text f → IsAtFault file text f
at_fault file text p (fault.File x) read u = absurd u
at_fault file text p fault.Words read u = (p, read, u)
at_fault file text p fault.TooLong read u = (p, read, u)
at_fault file text p (fault.Breach x) read u = (p, read, (u.0, u.1, u.2))
at_fault file text p fault.NoMemory read u = tt

pub no_plan : (file text : List ℕ) (p : ProjectData) (f : PlanFault) → reading file ≡ Ok p → IsUnplanned p text f → IsNoPlan file text f
no_plan file text p (fault.File x) read u = absurd u
no_plan file text p fault.Words read u = (p, read, u)
no_plan file text p fault.TooLong read u = (p, read, u)
no_plan file text p (fault.Breach x) read u = (p, read, u)
no_plan file text p fault.NoMemory read u = tt
