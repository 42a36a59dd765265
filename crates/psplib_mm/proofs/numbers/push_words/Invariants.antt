use Rattle.std.proofs.Common.{◌≡◌, length, Ok}
use Rattle.psplib_mm.specs.Scan.{joined, kept_cells}
use Rattle.psplib_mm.proofs.numbers.push_words.Given as goal

abbrev pub invariant-loop-word : goal.invariant-loop-word
invariant-loop-word l = joined (Ok l.cells.items) (kept_cells l.words) ≡ joined (Ok l.initial.cells.items) (kept_cells l.initial.words)

abbrev pub decreases-loop-word : goal.decreases-loop-word
decreases-loop-word l = length l.words
