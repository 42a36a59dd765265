-- The values that a schedule gives the variables, and clauses that each schedule within the limit
-- satisfies.
use Rattle.std.specs.Prelude.{◌≡◌, ℕ, ◌/◌, ◌%◌, ◌<◌, ◌==◌, Bool, false, List, All, Option, Some, None, slice_get, slice_index, length}
use Rattle.mrcpsp.specs.Project.{ProjectData}
use Rattle.mrcpsp.specs.Schedule.{ScheduleData}
use Rattle.schedule_clauses.specs.Meaning.{IsWithin, holds}
use Rattle.schedule_clauses.specs.declared.encoding.Encoding.{Encoding}
use Rattle.schedule_clauses.specs.declared.formula.CapacityRow.{CapacityRow}
use Rattle.schedule_clauses.specs.declared.formula.SectionKind.{SectionKind}
use Rattle.schedule_clauses.specs.declared.meaning.Fact.{Fact}

-- whether the fact of a variable holds; without a meaning it does not
abbrev pub told : ProjectData → ScheduleData → Option Fact → Bool
told p s None = false
told p s (Some x) = holds p s x

-- the values of the variables at a schedule
unfoldable pub intended : ProjectData → ScheduleData → List Fact → ℕ → Bool
intended p s meanings x = told p s (slice_get meanings x)

-- the literal is that of a variable with a meaning, and true
pub record IsTold (p : ProjectData) (s : ScheduleData) (meanings : List Fact) (l : ℕ) : Type 0 where
  pub meaning : Fact
  pub stands : slice_get meanings (l / 2) ≡ Some meaning
  pub holds : holds p s meaning ≡ (l % 2 == 0)

-- one of the clause's literals is such a literal
pub record IsGood (p : ProjectData) (s : ScheduleData) (meanings : List Fact) (clause : List ℕ) : Type 0 where
  pub place : ℕ
  pub inside : place < length clause
  pub told : IsTold p s meanings (slice_index clause place)

-- the schedules of which clauses hold: the feasible ones of a project, and with a limit those of at
-- most this makespan; the kinds of the sections that are ended, and the rows left out
pub record ScopeData : Type 0 where
  pub project : ProjectData
  pub limit : Option ℕ
  pub kinds : List SectionKind
  pub left_out : List CapacityRow

-- each clause is good, for each schedule within the limit
pub record AreGood (p : ProjectData) (limit : Option ℕ) (meanings : List Fact) (clauses : List (List ℕ)) : Type 0 where
  pub each : (s : ScheduleData) → IsWithin p limit s → All (λ c. IsGood p s meanings c) clauses

-- each clause of an encoding is good
abbrev pub AllGood : ProjectData → Option ℕ → Encoding → Type 0
AllGood p limit encoding = AreGood p limit encoding.meanings.items encoding.clauses

-- what had a meaning still has it
pub record Extends (before after : List Fact) : Type 0 where
  pub each : (x : ℕ) (m : Fact) → slice_get before x ≡ Some m → slice_get after x ≡ Some m
