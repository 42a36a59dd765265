use Rattle.std.proofs.Common.{◌≡◌, ℕ, ◌+◌, ◌<◌, ◌≤◌, length, get_or}
use Rattle.tree_search.proofs.amounts.add.Given as goal

abbrev pub invariant-loop-kind : goal.invariant-loop-kind
invariant-loop-kind l = record {
  fit : length l.sums ≡ 8;
  done : (r : ℕ) → r < l.kind → get_or l.sums r 0 ≡ get_or l.amounts r 0 + get_or l.more r 0;
  rest : (r : ℕ) → l.kind ≤ r → get_or l.sums r 0 ≡ get_or l.amounts r 0;
}
