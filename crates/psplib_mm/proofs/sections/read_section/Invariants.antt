use Rattle.std.proofs.Common.{◌≡◌, length}
use Rattle.std.specs.List.{before_first}
use Rattle.psplib_mm.specs.Reading.{begins, lines_after, words_below}
use Rattle.psplib_mm.specs.Scan.{joined, kept_cells}
use Rattle.psplib_mm.proofs.Scans.{scan_left}
use Rattle.psplib_mm.proofs.sections.read_section.Given as goal

abbrev pub invariant-loop-line : goal.invariant-loop-line
invariant-loop-line l = record {
  rest : lines_after l.next l.lines ≡ lines_after l.next l.initial.lines;
  numbers : joined l.numbers (kept_cells (scan_left l.heads (before_first (begins l.next) l.lines))) ≡ kept_cells (words_below (before_first (begins l.next) l.initial.lines));
}

abbrev pub decreases-loop-line : goal.decreases-loop-line
decreases-loop-line l = length l.lines
