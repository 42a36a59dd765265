use Rattle.std.proofs.Common.{sym, ap}
use Rattle.session_lines.specs.ReplyText.{reply_text, schedule_text}
use Rattle.session_lines.proofs.PartLemmas.{gathers_then, gathers_part, gathers_same}
use Rattle.session_lines.proofs.writer.gather_reply.Goals as goal

pub returns-in-Err-clause-gathers : goal.returns-in-Err-clause-gathers
returns-in-Err-clause-gathers g c =
    gathers_same _ _ _ _ _ _ _ (gathers_part _ _ _ _ _ _ _ (schedule_text c.in-Best.schedule) (rw c.best_parts-parts.ensures at c.in-Err.ensures.gathers)) (ap reply_text (sym c.in-Best.is))

pub returns-in-Some-clause-gathers : goal.returns-in-Some-clause-gathers
returns-in-Some-clause-gathers g c =
    let places = gathers_same _ _ _ _ _ _ _ c.gather_schedule.ensures.gathers (ap schedule_text (sym c.in-Some.is)) in
    gathers_same _ _ _ _ _ _ _ (gathers_then _ _ _ _ _ _ _ _ _ _ (rw (c.in_default.is, c.best_parts-parts.ensures) at c.gather_parts-in-Best.ensures.gathers) places) (ap reply_text (sym c.in-Best.is))
