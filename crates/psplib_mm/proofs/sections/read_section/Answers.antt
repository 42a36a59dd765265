use Rattle.std.proofs.Common.{◌≡◌, true, false, sym, ap, ◌∙◌}
use Rattle.psplib_mm.specs.Text.{Piece, is_skipped}
use Rattle.psplib_mm.specs.Reading.{begins}
use Rattle.psplib_mm.proofs.Firsts.{lines_after_no}
use Rattle.psplib_mm.proofs.Scans.{step_words, step_heads, step_skip}
use Rattle.psplib_mm.proofs.sections.read_section.Goals as goal

pub loop-line-preserved-in_ok-push_line : goal.loop-line-preserved-in_ok-push_line
loop-line-preserved-in_ok-push_line c =
    let inside : begins c.args.next c.in-Some.line ≡ false = sym c.is_title.ensures ∙ c.if-is_title.false in
    let shown : is_skipped c.in-Some.line.bytes ≡ false = ap (λ (p : Piece). is_skipped p.bytes) (sym c.line.view_is) ∙ sym c.is_rule.ensures ∙ c.if-not-is_rule.true in
    record {
      rest = sym (lines_after_no c.args.next c.in-Some.line c.next_line.new.self inside) ∙ (rw c.in-Some.ensures at c.loop-line.invariant.rest);
      numbers = rw c.in_ok-push_line.ensures (step_words (begins c.args.next) c.loop-line.numbers _ c.loop-line.heads c.in-Some.line c.next_line.new.self c.if-heads.true shown inside (rw c.in-Some.ensures at c.loop-line.invariant.numbers));
    }

pub loop-line-preserved-else-heads : goal.loop-line-preserved-else-heads
loop-line-preserved-else-heads c =
    let inside : begins c.args.next c.in-Some.line ≡ false = sym c.is_title.ensures ∙ c.if-is_title.false in
    let shown : is_skipped c.in-Some.line.bytes ≡ false = ap (λ (p : Piece). is_skipped p.bytes) (sym c.line.view_is) ∙ sym c.is_rule.ensures ∙ c.if-not-is_rule.true in
    record {
      rest = sym (lines_after_no c.args.next c.in-Some.line c.next_line.new.self inside) ∙ (rw c.in-Some.ensures at c.loop-line.invariant.rest);
      numbers = step_heads (begins c.args.next) c.loop-line.numbers _ c.loop-line.heads c.in-Some.line c.next_line.new.self c.if-heads.false shown inside (rw c.in-Some.ensures at c.loop-line.invariant.numbers);
    }

pub loop-line-preserved : goal.loop-line-preserved
loop-line-preserved c =
    let inside : begins c.args.next c.in-Some.line ≡ false = sym c.is_title.ensures ∙ c.if-is_title.false in
    let skipped : is_skipped c.in-Some.line.bytes ≡ true = ap (λ (p : Piece). is_skipped p.bytes) (sym c.line.view_is) ∙ sym c.is_rule.ensures ∙ c.if-not-is_rule.false in
    record {
      rest = sym (lines_after_no c.args.next c.in-Some.line c.next_line.new.self inside) ∙ (rw c.in-Some.ensures at c.loop-line.invariant.rest);
      numbers = step_skip (begins c.args.next) c.loop-line.numbers _ c.loop-line.heads c.in-Some.line c.next_line.new.self skipped inside (rw c.in-Some.ensures at c.loop-line.invariant.numbers);
    }
