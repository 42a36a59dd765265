use Rattle.std.proofs.Common.{true, refl}
use Rattle.std.proofs.lemmas.Bool.{both_ways}
use Rattle.serial_pass.proofs.partial.PartialSchedule.give_up.Goals as goal

pub invariant_of-self : goal.invariant_of-self
invariant_of-self c =
    let state = c.self.invariant.1 in (
      c.self.invariant.0,
      record {
        early = state.early;
        memory = state.memory;
        room = state.room;
        few = state.few;
        linked = state.linked;
        left = state.left;
        entered = state.entered;
        waiting = state.waiting;
        slack = state.slack;
        ends = state.ends;
        ended = state.ended;
        sums = c.nobody-self-inside.ensures.sums c.self.inside.project;
        going = λ e. absurd (both_ways true e refl);
        over = λ _. c.nobody-self-inside.ensures.count;
      },
    )
