use Rattle.std.proofs.Common.{◌∙◌, List, false, ap, arith, length, refl, subst, sym}
use Rattle.mrcpsp.specs.Placed.{Placed}
use Rattle.serial_pass.specs.declared.state.PassState.{PassState}
use Rattle.serial_pass.specs.Partial.{IsState}
use Rattle.serial_pass.proofs.BeginLemmas.{IsFirst, state_first}
use Rattle.serial_pass.proofs.partial.PartialSchedule.restart.Goals as goal

pub copy_from_slice-requires : goal.copy_from_slice-requires
copy_from_slice-requires c =
    let s = c.self.inside in
    omega (arith, s.state.waiting.ok.0, c.self.invariant.1.waiting.count, (c.self.invariant.0.first s.state.points.items c.self.invariant.1.linked).count, c.deref.ensures.len, ap length c.deref.ensures.value)

pub invariant_of-self : goal.invariant_of-self
invariant_of-self c =
    let s = c.self.inside in
    let tables = c.self.invariant.0 in
    let old = c.self.invariant.1 in
    let new : PassState = record { placed = c.clear.new.self; points = c.begin.new.points; waiting = c.copy_from_slice.new.self; eligible = s.tables.sources; slack = s.tables.slack; latest = 0 } in
    let first : IsFirst s.project s.tables new = record {
      memory = c.clear.ensures.capacity ∙ old.memory;
      room = c.begin.ensures.memory ∙ old.room;
      linked = c.begin.ensures.linked;
      two = c.begin.ensures.two;
      begins = c.begin.ensures.begins;
      left = c.begin.ensures.left;
      waiting = c.copy_from_slice.ensures.items ∙ c.deref.ensures.value;
      eligible = refl;
      slack = refl;
      latest = refl;
    } in
    (tables, subst (λ (xs : List Placed). IsState s.project xs false new) (sym c.clear.ensures.items) (state_first s.project s.tables new tables first))
