-- The meaning of each variable, and the schedules within a limit. Starts have the order encoding
-- (Crawford and Baker 1994): a variable for each activity and time is true if it starts by that
-- time.
use Rattle.std.specs.Prelude.{◌≡◌, ℕ, ◌+◌, ◌≤◌, ◌==◌, Bool, true, not, cond, ◌&&◌, nat_le, nat_lt, List, Option, Some}
use Rattle.std.specs.List.{list_any}
use Rattle.mrcpsp.specs.Project.{ProjectData, size, duration, consumption}
use Rattle.mrcpsp.specs.Schedule.{ScheduleData, IsFeasible, makespan, mode_of, start_of, load}
use Rattle.schedule_clauses.specs.Activities.{sum_among}
use Rattle.schedule_clauses.specs.declared.meaning.Fact.{Fact}
use Rattle.schedule_clauses.specs.declared.meaning.Fact.TheVariants.{StartsBy, InMode, Runs, UseWithin, ConsumptionWithin}
use Rattle.schedule_clauses.specs.declared.meaning.Term.{Term}

-- a schedule is feasible, and if there is a limit, its makespan is at most that
pub record IsWithin (p : ProjectData) (limit : Option ℕ) (s : ScheduleData) : Type 0 where
  pub feasible : IsFeasible p s
  pub short : (bound : ℕ) → limit ≡ Some bound → makespan p s ≤ bound

-- the use of renewable resource r in period t by a set of activities
unfoldable pub use_among : ProjectData → ScheduleData → ℕ → ℕ → List ℕ → ℕ
use_among p s r t activities = sum_among (λ j. load p r t j (mode_of s j) (start_of s j)) activities (size p)

-- the consumption of nonrenewable resource r by a set of activities
unfoldable pub consumed_among : ProjectData → ScheduleData → ℕ → List ℕ → ℕ
consumed_among p s r activities = sum_among (λ j. consumption p j (mode_of s j) r) activities (size p)

-- whether activity j runs in mode m in period t
unfoldable pub runs : ProjectData → ScheduleData → ℕ → ℕ → ℕ → Bool
runs p s j m t = (mode_of s j == m) && (nat_le (start_of s j) t && nat_lt t (start_of s j + duration p j m))

-- whether a fact holds of the schedule
abbrev pub holds : ProjectData → ScheduleData → Fact → Bool
holds p s (StartsBy j t) = nat_le (start_of s j) t
holds p s (InMode j m) = mode_of s j == m
holds p s (Runs j m t) = runs p s j m t
holds p s (UseWithin r t activities most) = nat_le (use_among p s r t activities) most
holds p s (ConsumptionWithin r activities most) = nat_le (consumed_among p s r activities) most

-- whether a variable or its negation is true
abbrev pub term_true : ProjectData → ScheduleData → Term → Bool
term_true p s a = cond a.positive (holds p s a.meaning) (not (holds p s a.meaning))

-- whether one of the terms is true
abbrev pub some_true : ProjectData → ScheduleData → List Term → Bool
some_true p s terms = list_any (term_true p s) terms

-- each schedule within the limit makes one of the terms true
pub record IsValid (p : ProjectData) (limit : Option ℕ) (terms : List Term) : Type 0 where
  pub sure : (s : ScheduleData) → IsWithin p limit s → some_true p s terms ≡ true
