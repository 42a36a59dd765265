use Rattle.std.proofs.Common.{◌≡◌, length, Ok}
use Rattle.psplib_mm.specs.Scan.{joined_up_to}
use Rattle.psplib_mm.proofs.numbers.push_words_up_to.Given as goal

abbrev pub invariant-loop-words : goal.invariant-loop-words
invariant-loop-words l = joined_up_to l.most (Ok l.cells.items) l.words ≡ joined_up_to l.most (Ok l.initial.cells.items) l.initial.words

abbrev pub decreases-loop-words : goal.decreases-loop-words
decreases-loop-words l = length l.words
