use Rattle.std.proofs.Common.{sym, ap, ◌∙◌, Some}
use Rattle.psplib_mm.specs.Reading.{reading}
use Rattle.session_lines.specs.Script.{whole_text, submitted}
use Rattle.session_lines.proofs.TextLemmas.{whole_answer, answers_unread}
use Rattle.session_lines.proofs.text.Text.submit.Goals as goal

pub returns-in-Ok-clause-answers : goal.returns-in-Ok-clause-answers
returns-in-Ok-clause-answers c said t =
    let read = rw c.deref.ensures.value at c.in-Ok.ensures.exact in
    whole_answer c.args.self said t c.if-is_refused.false c.if-is_long.false ∙ ap (submitted c.args.self.head) read

pub returns-clause-answers : goal.returns-clause-answers
returns-clause-answers c said t =
    let fails = rw c.deref.ensures.value at c.in-Err.ensures.exact in
    rw c.unread.ensures (answers_unread (whole_text said) c.args.self.head.who (reading c.args.self.bytes.items) c.in-Err.fault (ap (λ head. Some head.who) (sym t.head)) fails
    (λ e. whole_answer c.args.self said t c.if-is_refused.false c.if-is_long.false ∙ ap (submitted c.args.self.head) e))
