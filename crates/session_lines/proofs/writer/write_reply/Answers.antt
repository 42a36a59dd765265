use Rattle.session_lines.proofs.PartLemmas.{writes_gathered, writes_ungathered}
use Rattle.session_lines.proofs.writer.write_reply.Goals as goal

pub returns-in-Err-clause-writes : goal.returns-in-Err-clause-writes
returns-in-Err-clause-writes g c = writes_ungathered _ _ _ _ _ (rw c.new-gathered.ensures at c.in-Err.ensures.gathers)

pub returns-clause-writes : goal.returns-clause-writes
returns-clause-writes g c = writes_gathered _ _ _ _ _ _ _ (rw (c.in_default.is, c.new-gathered.ensures) at c.gather_reply_line.ensures.gathers) (rw c.as_slice.ensures.value at c.put.ensures.writes)
