use Rattle.std.proofs.Common.{◌≡◌, take}
use Rattle.clause_kernel.proofs.store.Store.packed.Given as goal

abbrev pub invariant-loop-number : goal.invariant-loop-number
invariant-loop-number l = l.store ≡ take l.number l.self
