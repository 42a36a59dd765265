use Rattle.std.proofs.Common.{◌+◌}
use Rattle.clause_proof.specs.Propagation.{IsFresh, Assumes}
use Rattle.clause_proof.proofs.replay.assume.Given as goal

abbrev pub invariant-loop-literal : goal.invariant-loop-literal
invariant-loop-literal l = record {
  assumes : Assumes l.clause l.literal-index l.values l.mark;
  fresh : IsFresh l.values (l.mark + 1);
}
