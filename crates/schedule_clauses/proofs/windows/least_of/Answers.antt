use Rattle.std.proofs.Common.{arith}
use Rattle.schedule_clauses.proofs.EncodingLemmas.{measured_all}
use Rattle.schedule_clauses.proofs.windows.least_of.Goals as goal

pub shortest-requires : goal.shortest-requires
shortest-requires c = let e = measured_all c.args.project.now c.args.measures.now c.requires.measures in omega arith
