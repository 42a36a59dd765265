-- Clauses that schedules satisfy, and what follows if no values make all of them true.
use Rattle.std.specs.Prelude.{ℕ, ◌≤◌, Bool, List}
use Rattle.mrcpsp.specs.Project.{ProjectData}
use Rattle.mrcpsp.specs.Schedule.{ScheduleData, IsFeasible, makespan}
use Rattle.clause_kernel.specs.Clauses.{Satisfies}

-- some values make all clauses true
abbrev pub IsSatisfiable : List (List ℕ) → Type 0
IsSatisfiable clauses = (v : ℕ → Bool) × Satisfies v clauses

-- a feasible schedule of at most this makespan makes the clauses satisfiable
pub record SatisfiedByShort (p : ProjectData) (bound : ℕ) (clauses : List (List ℕ)) : Type 0 where
  pub values : (s : ScheduleData) → IsFeasible p s → makespan p s ≤ bound → IsSatisfiable clauses

-- a feasible schedule makes the clauses satisfiable
pub record SatisfiedByFeasible (p : ProjectData) (clauses : List (List ℕ)) : Type 0 where
  pub values : (s : ScheduleData) → IsFeasible p s → IsSatisfiable clauses
