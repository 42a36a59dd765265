-- Modes that fit, and that they decide whether a project has a feasible schedule: the mode
-- assignment problem (Kolisch and Drexl 1997).
use Rattle.std.specs.Prelude.{◌≡◌, ℕ, ◌<◌, ◌≤◌, true, length, map}
use Rattle.std.specs.List.{range_with_len}
use Rattle.mrcpsp.specs.Numbers.{sum_below}
use Rattle.mrcpsp.specs.Project.{ProjectData, is_project, size, renewables, nonrenewables, duration, request, capacity, stock, horizon}
use Rattle.mrcpsp.specs.Schedule.{ScheduleData, HasMode, IsFeasible, IsInfeasible, mode_of, consumed, makespan}

-- the modes of a schedule fit, whatever its starts are: each mode exists, none that takes time is
-- non-executable (Sprecher, Hartmann and Drexl 1997), and no stock is exceeded
pub record HasFittingModes (p : ProjectData) (s : ScheduleData) : Type 0 where
  pub all : length s.modes ≡ size p
  pub exist : (j : ℕ) → j < size p → HasMode p s j
  pub executable : (j r : ℕ) → j < size p → r < renewables p → 0 < duration p j (mode_of s j) → request p j (mode_of s j) r ≤ capacity p r
  pub stocks : (r : ℕ) → r < nonrenewables p → consumed p s r ≤ stock p r

-- the start of activity j if each activity starts when the one before it ends
abbrev pub serial_start : ProjectData → ScheduleData → ℕ → ℕ
serial_start p s j = sum_below (λ i. duration p i (mode_of s i)) j

-- the schedule of the same modes in which activities run one after the other
unfoldable pub serial : ProjectData → ScheduleData → ScheduleData
serial p s = record { modes = s.modes; starts = map (serial_start p s) (range_with_len 0 (size p)) }

-- modes that fit are those of a feasible schedule within the horizon
abbrev pub FittingModesSuffice : Type 0
FittingModesSuffice = (p : ProjectData) (s : ScheduleData) → is_project p ≡ true → HasFittingModes p s → IsFeasible p (serial p s) × (makespan p (serial p s) ≤ horizon p.activities)

-- the modes of a feasible schedule fit
abbrev pub FeasibleModesFit : Type 0
FeasibleModesFit = (p : ProjectData) (s : ScheduleData) → IsFeasible p s → HasFittingModes p s

-- if each feasible schedule is longer than the horizon, there is none
abbrev pub BeyondTheHorizonIsNone : Type 0
BeyondTheHorizonIsNone = (p : ProjectData) → is_project p ≡ true → ((s : ScheduleData) → IsFeasible p s → horizon p.activities < makespan p s) → IsInfeasible p
