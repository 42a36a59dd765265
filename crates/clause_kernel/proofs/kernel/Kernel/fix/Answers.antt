use Rattle.clause_kernel.proofs.KernelLemmas.{entailed-fixed}
use Rattle.clause_kernel.proofs.kernel.Kernel.fix.Goals as goal

pub invariant_of-self : goal.invariant_of-self
invariant_of-self g c =
    rw (c.fix.ensures, c.either-self-inside.ensures, c.is_fixed-is_false.ensures, c.negated.ensures) (entailed-fixed g.F.Formula.clauses (record { clauses = c.self.inside.store; fixed = c.self.inside.marks; refuted = c.self.inside.is_refuted }) c.args.literal c.self.invariant c.requires)
