use Rattle.std.proofs.Common.{◌≡◌, ℕ, ◌-◌, ◌<◌, ◌≤◌, drop, length}
use Rattle.tree_search.specs.Front.{finish_at, left_at}
use Rattle.tree_search.proofs.front.give_back.Given as goal

abbrev pub invariant-loop-at : goal.invariant-loop-at
invariant-loop-at l = record {
  inside : l.at ≤ length l.running;
  done : (k : ℕ) → k < l.at → finish_at l.running k ≤ l.start;
  same : (r t : ℕ) → r < 8 → l.start ≤ t → left_at l.free (drop l.at l.running) r t ≡ left_at l.initial.free l.running r t;
}

abbrev pub decreases-loop-at : goal.decreases-loop-at
decreases-loop-at l = length l.running - l.at
