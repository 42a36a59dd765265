use Rattle.std.proofs.Common.{sym, ◌∙◌}
use Rattle.clause_kernel.proofs.Sound.{follows-sound}
use Rattle.clause_kernel.proofs.kernel.Kernel.learn.Goals as goal

pub admit-requires : goal.admit-requires
admit-requires g c =
    follows-sound g.F.Formula.clauses (record { clauses = c.self.inside.store; fixed = c.self.inside.marks; refuted = c.self.inside.is_refuted }) c.args.clause.now c.args.hints.now c.self.invariant (sym c.follows.ensures.answers ∙ c.if-not-follows.false)

pub returns-clause-entailed : goal.returns-clause-entailed
returns-clause-entailed g c =
    λ _. follows-sound g.F.Formula.clauses (record { clauses = c.self.inside.store; fixed = c.self.inside.marks; refuted = c.self.inside.is_refuted }) c.args.clause.now c.args.hints.now c.self.invariant (sym c.follows.ensures.answers ∙ c.if-not-follows.false)
