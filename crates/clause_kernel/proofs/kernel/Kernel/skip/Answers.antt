use Rattle.clause_kernel.proofs.KernelLemmas.{entailed-freed}
use Rattle.clause_kernel.proofs.kernel.Kernel.skip.Goals as goal

pub invariant_of-self-2 : goal.invariant_of-self-2
invariant_of-self-2 g c =
    rw c.in_ok-append_free.ensures.appended (entailed-freed g.F.Formula.clauses (record { clauses = c.self.inside.store; fixed = c.self.inside.marks; refuted = c.self.inside.is_refuted }) c.self.invariant)
