use Rattle.clause_proof.specs.Propagation.{Extends}
use Rattle.clause_proof.proofs.refutation.extend.Given as goal

abbrev pub invariant-loop-clause : goal.invariant-loop-clause
invariant-loop-clause l = Extends l.fn.clauses l.clauses
