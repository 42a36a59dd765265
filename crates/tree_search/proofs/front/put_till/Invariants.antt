use Rattle.std.proofs.Common.{◌≡◌, ℕ, ◌+◌, ◌-◌, ◌<◌, ◌≤◌, drop, take, length}
use Rattle.tree_search.specs.Front.{AreNone, IsRising, finish_at, returned}
use Rattle.tree_search.proofs.front.put_till.Given as goal

abbrev pub invariant-loop-at : goal.invariant-loop-at
invariant-loop-at l = record {
  inside : l.at ≤ length l.running;
  above : l.from ≤ l.at;
  memory : length l.later ≡ length l.initial.later;
  count : l.end + l.from ≡ l.filled + l.at;
  risen : IsRising (take l.end l.later);
  under : (i k : ℕ) → i < l.end → l.at ≤ k → k < length l.running → finish_at (take l.end l.later) i ≤ finish_at l.running k;
  early : (i : ℕ) → l.filled ≤ i → i < l.end → finish_at (take l.end l.later) i ≤ l.bound;
  kept : (r t : ℕ) → returned (take l.end l.later) r t + returned (drop l.at l.running) r t ≡ returned (take l.filled l.initial.later) r t + returned (drop l.from l.running) r t;
  none : (kinds : ℕ) → AreNone kinds l.running → AreNone kinds l.initial.later → AreNone kinds l.later;
}

abbrev pub decreases-loop-at : goal.decreases-loop-at
decreases-loop-at l = length l.running - l.at
