use Rattle.std.proofs.Common.{◌≡◌, ℕ, ◌≤◌, ◌<◌, ◌||◌, false, length, get_or}
use Rattle.mrcpsp.specs.Project.{size}
use Rattle.mrcpsp.specs.Values.{follows}
use Rattle.measures.proofs.followers.add_followers.Given as goal

abbrev pub invariant-loop-other : goal.invariant-loop-other
invariant-loop-other l = record {
  fit : length l.row ≡ 202;
  done : (k : ℕ) → k < l.other → get_or l.row k false ≡ (get_or l.initial.row k false || follows l.project (size l.project) l.next k);
  rest : (k : ℕ) → l.other ≤ k → get_or l.row k false ≡ get_or l.initial.row k false;
}
