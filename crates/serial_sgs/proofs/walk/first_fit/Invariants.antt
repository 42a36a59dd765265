use Rattle.std.proofs.Common.{ℕ, ◌<◌, ◌≤◌, length}
use Rattle.serial_sgs.specs.Profile.{FitsAt}
use Rattle.serial_sgs.proofs.walk.first_fit.Given as goal

-- the request fits from point `at` on
abbrev pub invariant-loop-at : goal.invariant-loop-at
invariant-loop-at l = record {
  inside : l.at < length l.points;
  fitting : (k : ℕ) → l.at ≤ k → k < length l.points → FitsAt l.points k l.request l.capacities;
}

abbrev pub decreases-loop-at : goal.decreases-loop-at
decreases-loop-at l = l.at
