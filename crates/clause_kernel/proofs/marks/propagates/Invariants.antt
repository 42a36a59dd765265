use Rattle.std.proofs.Common.{◌≡◌, drop, map, length}
use Rattle.clause_kernel.specs.Propagation.{propagates, clause_at}
use Rattle.clause_kernel.specs.Marks.{is_marked, IsFresh, fixed_of}
use Rattle.clause_kernel.proofs.marks.propagates.Given as goal

abbrev pub invariant-loop-hint : goal.invariant-loop-hint
invariant-loop-hint l = record {
  answers : propagates (length l.fn.values) (map (clause_at l.store) l.hints) (is_marked l.fn.values l.mark) ≡ propagates (length l.fn.values) (map (clause_at l.store) (drop l.hint-index l.hints)) (is_marked l.values l.mark);
  fixed : fixed_of l.values ≡ fixed_of l.fn.values;
  fresh : IsFresh l.values l.mark;
}
