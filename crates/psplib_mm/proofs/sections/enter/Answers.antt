use Rattle.std.proofs.Common.{sym, ◌∙◌}
use Rattle.psplib_mm.proofs.Firsts.{lines_after_no}
use Rattle.psplib_mm.proofs.sections.enter.Goals as goal

pub loop-line-preserved : goal.loop-line-preserved
loop-line-preserved c = sym (lines_after_no c.args.name c.in-Some.line c.next_line.new.self (sym c.is_title.ensures ∙ c.if-is_title.false)) ∙ rw c.in-Some.ensures at c.loop-line.invariant
