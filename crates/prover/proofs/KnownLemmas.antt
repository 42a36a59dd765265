-- What is known stays true.
use Rattle.std.proofs.Common.{◌≤◌, ℕ, true, false, Some, None, arith, sym}
use Rattle.std.proofs.lemmas.Bool.{true≢false}
use Rattle.mrcpsp.specs.Project.{ProjectData}
use Rattle.mrcpsp.specs.Schedule.{IsOptimal, IsInfeasible}
use Rattle.price_search.specs.LowerBound.{TakesAtLeast}
use Rattle.prover.specs.Known.{Facts, IsTrue, IsBest}
use Rattle.prover.specs.declared.known.BestKnown.{BestKnown}

pub true-none : (p : ProjectData) → IsTrue p (record { best = None; bound = 0; infeasible = false })
true-none p = record { best_is = tt; bound_is = λ s feasible. omega arith; infeasible_is = λ e. absurd (true≢false (sym e)) }

pub true-best : (p : ProjectData) (k : Facts) (found : BestKnown) → IsTrue p k → IsBest p found → IsTrue p (record { best = Some found; bound = k.bound; infeasible = k.infeasible })
true-best p k found holds is = record { best_is = is; bound_is = holds.bound_is; infeasible_is = holds.infeasible_is }

pub true-bound : (p : ProjectData) (k : Facts) (bound : ℕ) → IsTrue p k → TakesAtLeast p bound → IsTrue p (record { best = k.best; bound = bound; infeasible = k.infeasible })
true-bound p k bound holds least = record { best_is = holds.best_is; bound_is = least; infeasible_is = holds.infeasible_is }

pub true-infeasible : (p : ProjectData) (k : Facts) → IsTrue p k → IsInfeasible p → IsTrue p (record { best = k.best; bound = k.bound; infeasible = true })
true-infeasible p k holds none = record { best_is = holds.best_is; bound_is = holds.bound_is; infeasible_is = λ e. none }

-- a schedule that meets the bound is optimal
pub optimal-met : (p : ProjectData) (best : BestKnown) (bound : ℕ) → IsBest p best → TakesAtLeast p bound → best.makespan ≤ bound → IsOptimal p best.schedule
optimal-met p best bound is least met = record { feasible = is.feasible; least = λ other feasible. let long = least other feasible in let e = is.makespan_is in omega arith }

pub ruleset new_rules = (true-none)

pub ruleset known_rules = (true-best, true-bound, true-infeasible)

pub ruleset answer_rules = (optimal-met)
