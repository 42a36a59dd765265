use Rattle.clause_kernel.proofs.KernelLemmas.{entailed-refuted}
use Rattle.clause_kernel.proofs.kernel.Kernel.refute.Goals as goal

pub invariant_of-self : goal.invariant_of-self
invariant_of-self g c = entailed-refuted g.F.Formula.clauses (record { clauses = c.self.inside.store; fixed = c.self.inside.marks; refuted = c.self.inside.is_refuted }) c.self.invariant c.requires
