use Rattle.clause_kernel.proofs.KernelLemmas.{entailed-forgotten}
use Rattle.clause_kernel.proofs.kernel.Kernel.forget.Goals as goal

pub invariant_of-self : goal.invariant_of-self
invariant_of-self g c =
    rw c.remove.ensures (entailed-forgotten g.F.Formula.clauses (record { clauses = c.self.inside.store; fixed = c.self.inside.marks; refuted = c.self.inside.is_refuted }) c.args.number c.self.invariant)
