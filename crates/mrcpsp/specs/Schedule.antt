-- Schedules, feasible and optimal (Brucker, Drexl, Möhring, Neumann and Pesch 1999: MPS|prec|Cmax).
-- Activities and resources are places from 0; a schedule counts modes from 1.
use Rattle.std.specs.Prelude.{◌≡◌, ℕ, ◌+◌, ◌-◌, ◌<◌, ◌≤◌, true, cond, ◌&&◌, nat_lt, nat_le, List, length, get_or}
use Rattle.mrcpsp.specs.Numbers.{sum_below, max_below}
use Rattle.mrcpsp.specs.Project.{ProjectData, size, renewables, nonrenewables, mode_count, duration, request, consumption, capacity, stock, precedes}

-- a mode and a start for each activity
pub record ScheduleData : Type 0 where
  pub modes : List ℕ
  pub starts : List ℕ

-- the place of activity j's mode, from 0
unfoldable pub mode_of : ScheduleData → ℕ → ℕ
mode_of s j = get_or s.modes j 0 - 1

-- the start of activity j
unfoldable pub start_of : ScheduleData → ℕ → ℕ
start_of s j = get_or s.starts j 0

-- the finish of activity j: its start and its duration
unfoldable pub finish : ProjectData → ScheduleData → ℕ → ℕ
finish p s j = start_of s j + duration p j (mode_of s j)

-- the use of renewable resource r in period t by activity j, started in mode m at `start`; a
-- duration of 0 uses nothing
unfoldable pub load : ProjectData → ℕ → ℕ → ℕ → ℕ → ℕ → ℕ
load p r t j m start = cond (nat_le start t && nat_lt t (start + duration p j m)) (request p j m r) 0

-- the use of renewable resource r in period t
unfoldable pub use_of : ProjectData → ScheduleData → ℕ → ℕ → ℕ
use_of p s r t = sum_below (λ j. load p r t j (mode_of s j) (start_of s j)) (size p)

-- the consumption of nonrenewable resource r
unfoldable pub consumed : ProjectData → ScheduleData → ℕ → ℕ
consumed p s r = sum_below (λ j. consumption p j (mode_of s j) r) (size p)

-- the latest finish of an activity
unfoldable pub makespan : ProjectData → ScheduleData → ℕ
makespan p s = max_below (finish p s) (size p)

-- activity j has the mode that the schedule gives it
abbrev pub HasMode : ProjectData → ScheduleData → ℕ → Type 0
HasMode p s j = (0 < get_or s.modes j 0) × (mode_of s j < mode_count p j)

-- a schedule is feasible: each mode exists, each successor starts after its predecessor ends, and
-- no capacity is exceeded
pub record IsFeasible (p : ProjectData) (s : ScheduleData) : Type 0 where
  pub modes_fit : length s.modes ≡ size p
  pub starts_fit : length s.starts ≡ size p
  pub modes_exist : (j : ℕ) → j < size p → HasMode p s j
  pub precedence : (i j : ℕ) → i < size p → j < size p → precedes p i j ≡ true → finish p s i ≤ start_of s j
  pub renewable : (r t : ℕ) → r < renewables p → use_of p s r t ≤ capacity p r
  pub nonrenewable : (r : ℕ) → r < nonrenewables p → consumed p s r ≤ stock p r

-- a schedule is optimal: it is feasible, and no feasible one is shorter
pub record IsOptimal (p : ProjectData) (s : ScheduleData) : Type 0 where
  pub feasible : IsFeasible p s
  pub least : (other : ScheduleData) → IsFeasible p other → makespan p s ≤ makespan p other

-- no schedule is feasible
abbrev pub IsInfeasible : ProjectData → Type 0
IsInfeasible p = (s : ScheduleData) → IsFeasible p s → ⊥
