-- When activities are ready, and how many predecessors they wait for.
use Rattle.std.specs.Prelude.{◌≡◌, ℕ, ◌-◌, ◌<◌, ◌≤◌, ◌==◌, true, false, cond, max, nat_le, nat_lt, List, length, get_or}
use Rattle.std.specs.List.{list_any}
use Rattle.mrcpsp.specs.Project.{ProjectData, size}
use Rattle.mrcpsp.specs.Placed.{Placed, are_ready, is_eligible}
use Rattle.serial_sgs.specs.Members.{has}
use Rattle.serial_sgs.specs.Order.{missing_of}
use Rattle.serial_pass.specs.declared.points.FreePoint.{FreePoint}
use Rattle.serial_pass.specs.declared.waiting.Wait.{Wait}
use Rattle.serial_pass.specs.Points.{time_at}

-- the default for a missing entry
abbrev pub no_wait : Wait
no_wait = record { ready = 0; point = 0; missing = 0 }

-- a predecessor has been placed, with a point at its finish
abbrev pub told : ℕ → ℕ → Wait → Wait
told finish point w = record { ready = max w.ready finish; point = cond (nat_lt w.ready finish) point w.point; missing = w.missing - 1 }

-- the latest finish of the placed predecessors of activity j, its point, and how many are not placed
pub record IsWait (p : ProjectData) (placed : List Placed) (points : List FreePoint) (j : ℕ) (w : Wait) : Type 0 where
  pub inside : w.point < length points
  pub time : w.ready ≡ time_at points w.point
  pub ready : (t : ℕ) → are_ready p placed j t ≡ nat_le w.ready t
  pub missing : w.missing ≡ missing_of p placed j

pub record AreWaiting (p : ProjectData) (placed : List Placed) (points : List FreePoint) (waits : List Wait) : Type 0 where
  pub count : length waits ≡ size p
  pub each : (j : ℕ) → j < size p → IsWait p placed points j (get_or waits j no_wait)

-- those in `after` wait for one predecessor less, and no others
pub record AreTold (after : List ℕ) (finish point : ℕ) (waits later : List Wait) : Type 0 where
  pub count : length later ≡ length waits
  pub own : (s : ℕ) → list_any (λ x. x == s) after ≡ true → get_or later s no_wait ≡ told finish point (get_or waits s no_wait)
  pub rest : (s : ℕ) → list_any (λ x. x == s) after ≡ false → get_or later s no_wait ≡ get_or waits s no_wait

-- those in `after` are members if they miss nobody now, and all others stay as they were
pub record HaveEntered (after : List ℕ) (later : List Wait) (words now : List ℕ) : Type 0 where
  pub own : (s : ℕ) → list_any (λ x. x == s) after ≡ true → has now s ≡ ((get_or later s no_wait).missing == 0)
  pub rest : (s : ℕ) → list_any (λ x. x == s) after ≡ false → has now s ≡ has words s

-- the members are the eligible activities
pub record AreEligible (p : ProjectData) (placed : List Placed) (words : List ℕ) : Type 0 where
  pub own : (j : ℕ) → j < size p → has words j ≡ is_eligible p placed j
  pub others : (j : ℕ) → size p ≤ j → j < 256 → has words j ≡ false
