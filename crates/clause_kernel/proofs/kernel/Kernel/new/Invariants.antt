use Rattle.std.proofs.Common.{◌≡◌, map, take}
use Rattle.clause_kernel.specs.Kernel.{kept}
use Rattle.clause_kernel.proofs.kernel.Kernel.new.Given as goal

abbrev pub invariant-loop-number : goal.invariant-loop-number
invariant-loop-number g l = l.kernel.clauses ≡ map kept (take l.number l.formula)
