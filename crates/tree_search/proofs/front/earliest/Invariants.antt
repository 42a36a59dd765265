use Rattle.std.proofs.Common.{◌≡◌, ℕ, ◌-◌, ◌<◌, ◌≤◌, ◌⊎◌, drop, length, get_or}
use Rattle.tree_search.specs.Front.{finish_at, left_at}
use Rattle.tree_search.proofs.front.earliest.Given as goal

-- `left` and the ones from `at` on are as good as all: from `start` on the same, and never less
abbrev pub invariant-loop-start : goal.invariant-loop-start
invariant-loop-start l = record {
  inside : l.at ≤ length l.running;
  order : (k : ℕ) → l.at ≤ k → k < length l.running → l.start ≤ finish_at l.running k;
  same : (r t : ℕ) → r < 8 → l.start ≤ t → left_at l.left (drop l.at l.running) r t ≡ left_at l.free l.running r t;
  most : (r t : ℕ) → r < 8 → left_at l.free l.running r t ≤ left_at l.left (drop l.at l.running) r t;
  first : (l.start ≡ 0) ⊎ ((r : ℕ) × (r < 8) × ((t : ℕ) → t < l.start → left_at l.free l.running r t < get_or l.request r 0));
}

abbrev pub decreases-loop-start : goal.decreases-loop-start
decreases-loop-start l = length l.running - l.at
