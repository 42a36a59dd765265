use Rattle.std.proofs.Common.{◌≡◌, ◌≤◌, take, Some, vec_len}
use Rattle.solve_cli.specs.SearchList.{searches_of, words_in}
use Rattle.solve_cli.proofs.kinds.kinds_of.Given as goal

-- the searches so far are those of the words so far, and few
abbrev pub invariant-loop-word : goal.invariant-loop-word
invariant-loop-word l = record {
  kinds : searches_of (take l.word-index (words_in l.words)) ≡ Some l.kinds.items;
  few : vec_len l.kinds ≤ 1000;
}
