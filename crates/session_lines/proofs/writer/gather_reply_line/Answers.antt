use Rattle.std.proofs.Common.{[]}
use Rattle.session_lines.proofs.PartLemmas.{gathers_then, gathers_part}
use Rattle.session_lines.proofs.writer.gather_reply_line.Goals as goal

pub returns-in-Err-clause-gathers : goal.returns-in-Err-clause-gathers
returns-in-Err-clause-gathers g c = gathers_part _ _ _ _ [] _ _ _ (gathers_part _ _ _ _ _ [] _ _ (rw c.who_parts.ensures at c.in-Err.ensures.gathers))

pub returns-in-Err-gather_said-clause-gathers : goal.returns-in-Err-gather_said-clause-gathers
returns-in-Err-gather_said-clause-gathers g c = gathers_part _ _ _ _ _ _ _ _ (gathers_then _ _ _ _ _ _ _ _ _ _ (rw (c.in_default.is, c.who_parts.ensures) at c.gather_parts.ensures.gathers) c.in-Err-gather_said.ensures.gathers)

pub returns-clause-gathers : goal.returns-clause-gathers
returns-clause-gathers g c =
    gathers_then _ _ _ _ _ _ _ _ _ _ (gathers_then _ _ _ _ _ _ _ _ _ _ (rw (c.in_default.is, c.who_parts.ensures) at c.gather_parts.ensures.gathers) (rw c.in_default-gather_said.is at c.gather_said.ensures.gathers)) c.gather.ensures.gathers
