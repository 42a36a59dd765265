use Rattle.std.proofs.Common.{◌≡◌, length, take}
use Rattle.psplib_mm.specs.Reading.{words_below}
use Rattle.psplib_mm.specs.Scan.{joined_up_to, kept_cells}
use Rattle.psplib_mm.proofs.Scans.{scan_left}
use Rattle.psplib_mm.proofs.sections.read_last_section.Given as goal

abbrev pub invariant-loop-line : goal.invariant-loop-line
invariant-loop-line l = joined_up_to l.most l.numbers (scan_left l.heads_passed l.lines) ≡ kept_cells (take l.most (words_below l.initial.lines))

abbrev pub decreases-loop-line : goal.decreases-loop-line
decreases-loop-line l = length l.lines
