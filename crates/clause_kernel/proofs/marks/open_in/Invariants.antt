use Rattle.std.proofs.Common.{◌≡◌, drop, ◌++◌}
use Rattle.clause_kernel.specs.Propagation.{open_literals}
use Rattle.clause_kernel.specs.Marks.{is_marked}
use Rattle.clause_kernel.proofs.OpenLemmas.{listed}
use Rattle.clause_kernel.proofs.marks.open_in.Given as goal

abbrev pub invariant-loop-literal : goal.invariant-loop-literal
invariant-loop-literal l = open_literals (is_marked l.values l.mark) l.clause ≡ listed l.first ++ open_literals (is_marked l.values l.mark) (drop l.literal-index l.clause)
