use Rattle.std.proofs.Common.{◌≡◌, false, ◌∷◌, sym, ◌∙◌}
use Rattle.psplib_mm.specs.Reading.{is_section_line}
use Rattle.psplib_mm.proofs.Firsts.{from_no, head_more}
use Rattle.psplib_mm.proofs.head.Head.read.Goals as goal

pub loop-line-preserved : goal.loop-line-preserved
loop-line-preserved c =
    let inside : is_section_line c.in-Some.line ≡ false = sym c.is_section.ensures ∙ c.if-is_section.false in
    let whole : c.loop-line.lines ≡ c.in-Some.line ∷ c.next_line.new.self = sym c.loop-line.invariant.same ∙ c.in-Some.ensures in
    record {
      same = sym c.again.ensures;
      head = rw (c.again.ensures, c.note.ensures) (head_more c.loop-line.head c.in-Some.line c.next_line.new.self inside ∙ (rw whole at c.loop-line.invariant.head));
      rest = rw c.again.ensures (sym (from_no is_section_line c.in-Some.line c.next_line.new.self inside) ∙ (rw whole at c.loop-line.invariant.rest));
    }
