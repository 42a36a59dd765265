use Rattle.std.proofs.Common.{sym, ap, Some, ◌∙◌}
use Rattle.serial_pass.proofs.BoardLemmas.{makespan-full}
use Rattle.serial_pass.proofs.partial.PartialSchedule.makespan.Goals as goal

pub returns-else-self-clause-exact : goal.returns-else-self-clause-exact
returns-else-self-clause-exact c = rw (← c.self.view_is, c.if-self.false) (ap Some c.self.invariant.1.ends)

pub returns-else-self-clause-whole : goal.returns-else-self-clause-whole
returns-else-self-clause-whole c =
    let s = c.self.inside in
    rw (← c.self.view_is, c.if-self.false) (λ full. ap Some (c.self.invariant.1.ends ∙ sym (makespan-full s.project s.state.placed.items c.self.invariant.1.early.board full)))
