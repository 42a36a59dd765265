-- A partial schedule of a pass, and what is kept of it.
use Rattle.std.specs.Prelude.{◌≡◌, ℕ, ◌+◌, ◌-◌, ◌%◌, ◌<◌, ◌≤◌, Bool, true, false, List, [], length, get_or}
use Rattle.std.specs.Vec.{vec_capacity}
use Rattle.mrcpsp.specs.declared.limits.TheConstants.{MOST_RESOURCES}
use Rattle.mrcpsp.specs.Limits.{IsProject}
use Rattle.mrcpsp.specs.Project.{ProjectData, size, capacity, stock}
use Rattle.mrcpsp.specs.Placed.{Placed, is_placed, latest, placed_use}
use Rattle.serial_sgs.specs.Board.{needed_of}
use Rattle.serial_sgs.specs.Order.{HasAfter, missing_of}
use Rattle.serial_sgs.specs.Rows.{IsTable}
use Rattle.serial_pass.specs.declared.points.FreePoint.{FreePoint}
use Rattle.serial_pass.specs.declared.state.PassState.{PassState}
use Rattle.serial_pass.specs.declared.tables.PassTables.{PassTables}
use Rattle.serial_pass.specs.Eligible.{AreFinishes, HasSums}
use Rattle.serial_pass.specs.Pass.{IsEarly}
use Rattle.serial_pass.specs.Points.{IsLeft, IsLinked, time_at}
use Rattle.serial_pass.specs.Waiting.{AreEligible, AreWaiting}

-- what the placed activities leave of resource r in period u
abbrev pub left_of : ProjectData → List Placed → ℕ → ℕ → ℕ
left_of p placed r u = capacity p r - placed_use p placed r u

-- each stock less its need, modulo 2^32
abbrev pub IsSlack : ProjectData → List Placed → List ℕ → Type 0
IsSlack p placed slack = (r : ℕ) → r < MOST_RESOURCES → (get_or slack r 0 + needed_of p placed r) % 4294967296 ≡ stock p r

-- what a pass knows of its project: rows, successors, latest finish times, and how each pass begins
pub record AreTables (p : ProjectData) (t : PassTables) : Type 0 where
  pub project : IsProject p
  pub tabled : IsTable p t.rows
  pub after : HasAfter p (size p) t.after.items
  pub finishes : AreFinishes p t.lfts.items
  pub sources : AreEligible p [] t.sources.set
  pub sums : HasSums p t.sources
  pub first : (points : List FreePoint) → IsLinked points → AreWaiting p [] points t.first.items
  pub slack : IsSlack p [] t.slack

-- what is kept of the placed activities; nobody is eligible in a void pass
pub record IsState (p : ProjectData) (placed : List Placed) (void : Bool) (s : PassState) : Type 0 where
  pub early : IsEarly (record { project = p; placed = placed })
  pub memory : vec_capacity s.placed ≡ size p
  pub room : vec_capacity s.points ≡ size p + 2
  pub few : length s.points.items ≤ length placed + 2
  pub linked : IsLinked s.points.items
  pub left : IsLeft (left_of p placed) s.points.items
  pub entered : (j : ℕ) → j < size p → is_placed placed j ≡ true → missing_of p placed j ≡ 0
  pub waiting : AreWaiting p placed s.points.items s.waiting.items
  pub slack : IsSlack p placed s.slack
  pub ends : s.latest ≡ latest p placed
  pub ended : (e : ℕ) × (e < length s.points.items) × (time_at s.points.items e ≡ latest p placed)
  pub sums : HasSums p s.eligible
  pub going : void ≡ false → AreEligible p placed s.eligible.set
  pub over : void ≡ true → s.eligible.count ≡ 0
