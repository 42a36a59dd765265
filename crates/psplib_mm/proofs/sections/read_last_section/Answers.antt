use Rattle.std.proofs.Common.{◌≡◌, false, sym, ap, ◌∙◌}
use Rattle.psplib_mm.specs.Text.{Piece, is_skipped}
use Rattle.psplib_mm.proofs.Scans.{last_step_words}
use Rattle.psplib_mm.proofs.sections.read_last_section.Goals as goal

pub loop-line-preserved-in_ok-push_line_up_to : goal.loop-line-preserved-in_ok-push_line_up_to
loop-line-preserved-in_ok-push_line_up_to c =
    let shown : is_skipped c.in-Some.line.bytes ≡ false = ap (λ (p : Piece). is_skipped p.bytes) (sym c.line.view_is) ∙ sym c.is_rule.ensures ∙ c.if-not-is_rule.true in
    rw c.in_ok-push_line_up_to.ensures (last_step_words c.args.most c.loop-line.numbers _ c.loop-line.heads_passed c.in-Some.line c.next_line.new.self c.if-heads_passed.true shown (rw c.in-Some.ensures at c.loop-line.invariant))
