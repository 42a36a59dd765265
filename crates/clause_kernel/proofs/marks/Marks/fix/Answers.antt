use Rattle.clause_kernel.proofs.MarkLemmas.{fixed-set}
use Rattle.clause_kernel.proofs.marks.Marks.fix.Goals as goal

pub returns : goal.returns
returns c = rw (c.mark_as.ensures, ← c.self.view_is) (fixed-set c.self.inside.values.items c.args.literal)
