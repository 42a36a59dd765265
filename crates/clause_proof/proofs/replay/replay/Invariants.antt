use Rattle.std.proofs.Common.{◌+◌, get_or, []}
use Rattle.clause_proof.specs.Propagation.{IsFresh, Keeps}
use Rattle.clause_proof.proofs.ReplayLemmas.{Derives}
use Rattle.clause_proof.proofs.replay.replay.Given as goal

abbrev pub invariant-loop-hint : goal.invariant-loop-hint
invariant-loop-hint l = record {
  fresh : IsFresh l.values (l.mark + 1);
  keeps : Keeps l.fn.used l.used;
  derives : Derives l.clauses l.used l.at (get_or l.clauses l.at []) l.values l.mark;
}
