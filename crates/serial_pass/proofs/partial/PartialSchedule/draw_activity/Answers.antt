use Rattle.std.proofs.Common.{ap, ◌∙◌}
use Rattle.strategy.specs.Pass.{drawn_activity}
use Rattle.serial_pass.proofs.StateLemmas.{eligible_are}
use Rattle.serial_pass.proofs.partial.PartialSchedule.draw_activity.Goals as goal

pub returns : goal.returns
returns c =
    let s = c.self.inside in
    let told = rw c.deref.ensures.value at c.drawn.ensures in
    rw (← c.self.view_is) (told s.project c.self.invariant.0.finishes c.self.invariant.1.sums ∙ ap (drawn_activity s.project c.args.word) (eligible_are s.project s.state.placed.items s.void s.state c.self.invariant.1))
