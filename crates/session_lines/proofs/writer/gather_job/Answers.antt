use Rattle.session_lines.proofs.PartLemmas.{gathers_then, gathers_part}
use Rattle.session_lines.proofs.writer.gather_job.Goals as goal

pub returns-in-Err-clause-gathers : goal.returns-in-Err-clause-gathers
returns-in-Err-clause-gathers g c = gathers_part _ _ _ _ _ _ _ _ c.in-Err.ensures.gathers

pub returns-clause-gathers : goal.returns-clause-gathers
returns-clause-gathers g c =
    gathers_then _ _ _ _ _ _ _ _ _ _ (rw c.in_default.is at c.gather_parts.ensures.gathers) (rw c.line_parts.ensures at c.gather_parts-2.ensures.gathers)
