use Rattle.psplib_mm.proofs.Firsts.{lines_after_from}
use Rattle.psplib_mm.proofs.head.sizes_in.Goals as goal

pub returns-clause-rest : goal.returns-clause-rest
returns-clause-rest c = rw c.read.ensures.rest (lines_after_from c.args.lines.now)
