use Rattle.std.proofs.Common.{◌≡◌, length}
use Rattle.std.specs.List.{before_first}
use Rattle.psplib_mm.specs.Reading.{is_section_line}
use Rattle.psplib_mm.specs.Scan.{from_first, head_lines, first_lines}
use Rattle.psplib_mm.proofs.head.Head.read.Given as goal

abbrev pub invariant-loop-line : goal.invariant-loop-line
invariant-loop-line l = record {
  same : l.ahead ≡ l.lines;
  head : first_lines l.head (head_lines (before_first is_section_line l.lines)) ≡ head_lines (before_first is_section_line l.initial.lines);
  rest : from_first is_section_line l.lines ≡ from_first is_section_line l.initial.lines;
}

abbrev pub decreases-loop-line : goal.decreases-loop-line
decreases-loop-line l = length l.ahead
