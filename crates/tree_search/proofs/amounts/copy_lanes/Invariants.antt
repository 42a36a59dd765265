use Rattle.std.proofs.Common.{◌≡◌, ℕ, ◌<◌, ◌≤◌, length, get_or}
use Rattle.tree_search.proofs.amounts.copy_lanes.Given as goal

abbrev pub invariant-loop-kind : goal.invariant-loop-kind
invariant-loop-kind l = record {
  fit : length l.amounts ≡ 8;
  done : (r : ℕ) → r < l.kind → get_or l.amounts r 0 ≡ get_or l.new r 0;
  rest : (r : ℕ) → l.kind ≤ r → get_or l.amounts r 0 ≡ get_or l.initial.amounts r 0;
}
