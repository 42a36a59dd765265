-- What is known of a project.
use Rattle.std.specs.Prelude.{◌≡◌, ◌≤◌, ◌<◌, ◌||◌, ℕ, Bool, true, false, nat_le, Option, Some, None, IfSome}
use Rattle.mrcpsp.specs.Project.{ProjectData}
use Rattle.mrcpsp.specs.Schedule.{IsFeasible, IsInfeasible, makespan}
use Rattle.price_search.specs.LowerBound.{TakesAtLeast}
use Rattle.prover.specs.declared.known.BestKnown.{BestKnown}
use Rattle.prover.specs.declared.known.Question.{Question}

-- the schedule is feasible, and the makespan is its own
pub record IsBest (p : ProjectData) (best : BestKnown) : Type 0 where
  pub feasible : IsFeasible p best.schedule
  pub makespan_is : best.makespan ≡ makespan p best.schedule

-- the best schedule, a lower bound, and whether no schedule is feasible
pub record Facts : Type 0 where
  pub best : Option BestKnown
  pub bound : ℕ
  pub infeasible : Bool

-- the facts are true of the project
pub record IsTrue (p : ProjectData) (known : Facts) : Type 0 where
  pub best_is : IfSome known.best (IsBest p)
  pub bound_is : TakesAtLeast p known.bound
  pub infeasible_is : known.infeasible ≡ true → IsInfeasible p

-- an answer to the question is something new: it is not below the bound, and the best schedule is
-- longer
pub record IsOpen (known : Facts) (question : Question) : Type 0 where
  pub from_bound : known.bound ≤ question.within
  pub below_best : IfSome known.best (λ best. question.within < best.makespan)

-- whether there is a schedule that is as short as the bound
abbrev pub is_met : Option BestKnown → ℕ → Bool
is_met None bound = false
is_met (Some best) bound = nat_le best.makespan bound

-- whether nothing is open
abbrev pub is_decided : Facts → Bool
is_decided known = known.infeasible || is_met known.best known.bound
