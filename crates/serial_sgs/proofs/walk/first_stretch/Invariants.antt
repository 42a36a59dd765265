use Rattle.std.proofs.Common.{ℕ, ◌+◌, ◌-◌, ◌<◌, ◌≤◌, length}
use Rattle.serial_sgs.specs.Profile.{FitsAt, FitsDuring, time_at}
use Rattle.serial_sgs.proofs.walk.first_stretch.Given as goal

-- from no period before `start` on there is room, and each point before `at` that holds from
-- `start` on has room
abbrev pub invariant-loop-at : goal.invariant-loop-at
invariant-loop-at l = record {
  above : l.ready ≤ l.start;
  soon : l.start ≤ 1000001000;
  inside : l.at ≤ length l.points;
  room : (k : ℕ) → k < l.at → (k + 1 < length l.points → l.start < time_at l.points (k + 1)) → FitsAt l.points k l.row.request l.capacities;
  first : (t : ℕ) → l.ready ≤ t → t < l.start → FitsDuring l.points l.row.request l.capacities l.row.duration t → ⊥;
}

abbrev pub decreases-loop-at : goal.decreases-loop-at
decreases-loop-at l = length l.points - l.at
