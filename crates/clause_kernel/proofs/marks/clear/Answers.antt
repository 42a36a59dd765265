use Rattle.std.proofs.Common.{◌∙◌, arith}
use Rattle.clause_kernel.proofs.MarkLemmas.{cleared-case, cleared-is, cleared-each, fixed-cleared}
use Rattle.clause_kernel.proofs.marks.clear.Goals as goal

pub loop-value-preserved : goal.loop-value-preserved
loop-value-preserved c = record {
  fixed = fixed-cleared c.loop-value.values c.loop-value.value-index c.cleared.result (rw c.cleared.ensures (cleared-case _)) ∙ c.loop-value.invariant.fixed;
  each = cleared-each c.loop-value.values c.loop-value.value-index c.cleared.result (omega arith) (rw c.cleared.ensures (cleared-is _)) c.loop-value.invariant.each;
}
