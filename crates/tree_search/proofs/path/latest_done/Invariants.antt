use Rattle.std.proofs.Common.{ℕ, ◌<◌, ◌≤◌, length, get_or}
use Rattle.tree_search.proofs.path.latest_done.Given as goal

abbrev pub invariant-loop-place : goal.invariant-loop-place
invariant-loop-place l = record {
  all : (k : ℕ) → k < l.place → get_or l.finishes (get_or l.before k 0) 0 ≤ l.latest;
  last : get_or l.finishes (get_or l.before l.last 0) 0 ≤ l.latest;
  least : (t : ℕ) → ((k : ℕ) → k < length l.before → get_or l.finishes (get_or l.before k 0) 0 ≤ t) → l.latest ≤ t;
  done : (k : ℕ) → k < l.place → get_or l.finishes (get_or l.before k 0) 0 < 4294967295;
  there : get_or l.finishes (get_or l.before l.last 0) 0 < 4294967295;
}
