use Rattle.std.proofs.Common.{◌≤◌, length}
use Rattle.clause_proof.specs.Propagation.{IsFresh, IsRefuted}
use Rattle.clause_proof.proofs.refutation.check_backwards.Given as goal

abbrev pub invariant-loop-mark : goal.invariant-loop-mark
invariant-loop-mark l = record {
  inside : l.count ≤ length l.clauses;
  refuted : IsRefuted l.clauses l.used l.count;
  fresh : IsFresh l.values l.mark;
}
