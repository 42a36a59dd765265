use Rattle.std.proofs.Common.{arith}
use Rattle.schedule_clauses.proofs.EncodingLemmas.{measured_all}
use Rattle.schedule_clauses.proofs.windows.rest_of.Goals as goal

pub tail-requires : goal.tail-requires
tail-requires c = let e = measured_all c.args.project.now c.args.measures.now c.requires.measures in omega arith
