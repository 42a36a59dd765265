use Rattle.std.proofs.Common.{◌≡◌, length}
use Rattle.psplib_mm.specs.Reading.{lines_after}
use Rattle.psplib_mm.proofs.sections.enter.Given as goal

abbrev pub invariant-loop-line : goal.invariant-loop-line
invariant-loop-line l = lines_after l.name l.lines ≡ lines_after l.name l.initial.lines

abbrev pub decreases-loop-line : goal.decreases-loop-line
decreases-loop-line l = length l.lines
