use Rattle.std.proofs.Common.{◌≡◌, ℕ, ◌<◌, ◌≤◌, length, get_or}
use Rattle.tree_search.proofs.path.copy_words.Given as goal

abbrev pub invariant-loop-word : goal.invariant-loop-word
invariant-loop-word l = record {
  fit : length l.words ≡ 4;
  done : (k : ℕ) → k < l.word → get_or l.words k 0 ≡ get_or l.new k 0;
  rest : (k : ℕ) → l.word ≤ k → get_or l.words k 0 ≡ get_or l.initial.words k 0;
}
