use Rattle.std.proofs.Common.{◌≡◌, drop, map, length}
use Rattle.clause_kernel.specs.Clauses.{negated}
use Rattle.clause_kernel.specs.Propagation.{with_true}
use Rattle.clause_kernel.specs.Marks.{is_marked, IsFresh, fixed_of}
use Rattle.clause_kernel.proofs.marks.assume.Given as goal

abbrev pub invariant-loop-literal : goal.invariant-loop-literal
invariant-loop-literal l = record {
  marked : with_true (length l.fn.values) (is_marked l.fn.values l.mark) (map negated l.clause) ≡ with_true (length l.fn.values) (is_marked l.values l.mark) (map negated (drop l.literal-index l.clause));
  fixed : fixed_of l.values ≡ fixed_of l.fn.values;
  fresh : IsFresh l.values l.mark;
}
