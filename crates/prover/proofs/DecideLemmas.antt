-- What a refutation of clauses shows of schedules.
use Rattle.std.proofs.Common.{◌⊎◌, ℕ, ◌≤◌, ◌<◌, List, arith, ⊎_elim}
use Rattle.mrcpsp.specs.Project.{ProjectData}
use Rattle.mrcpsp.specs.Schedule.{IsInfeasible, makespan}
use Rattle.clause_kernel.specs.Clauses.{IsUnsatisfiable}
use Rattle.schedule_prices.specs.Choices.{EachExceeds}
use Rattle.schedule_clauses.specs.Satisfied.{SatisfiedByShort, SatisfiedByFeasible}

longer_or_not : (a b : ℕ) → (a < b) ⊎ (b ≤ a)
longer_or_not a b = grind arith

pub exceeds-refuted : (p : ProjectData) (bound : ℕ) (clauses : List (List ℕ)) → SatisfiedByShort p bound clauses → IsUnsatisfiable clauses → EachExceeds p bound
exceeds-refuted p bound clauses by none s feasible =
    ⊎_elim
    (λ (longer : bound < makespan p s). longer)
    (λ (short : makespan p s ≤ bound). absurd (let found = by.values s feasible short in none.none found.0 found.1))
    (longer_or_not bound (makespan p s))

pub infeasible-refuted : (p : ProjectData) (clauses : List (List ℕ)) → SatisfiedByFeasible p clauses → IsUnsatisfiable clauses → IsInfeasible p
infeasible-refuted p clauses by none = λ s feasible. let found = by.values s feasible in none.none found.0 found.1

pub ruleset decide_rules = (exceeds-refuted)

pub ruleset stock_rules = (infeasible-refuted)
