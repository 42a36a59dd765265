use Rattle.std.proofs.Common.{◌≡◌, ◌∙◌, List, false, length, arith, ap, refl, subst, sym}
use Rattle.mrcpsp.specs.Project.{ProjectData, size}
use Rattle.mrcpsp.specs.Placed.{Placed}
use Rattle.mrcpsp.proofs.LimitLemmas.{kept}
use Rattle.serial_pass.specs.declared.state.PassState.{PassState}
use Rattle.serial_pass.specs.Partial.{AreTables, IsState}
use Rattle.serial_pass.proofs.BeginLemmas.{IsFirst, state_first}
use Rattle.serial_pass.proofs.partial.PartialSchedule.new.Goals as goal

pub of-requires-clause-project : goal.of-requires-clause-project
of-requires-clause-project c = kept c.args.project.now c.activities-size.ensures.project

pub invariant_of-result : goal.invariant_of-result
unfolding size
invariant_of-result c =
    let p = c.args.project.now in
    let t = c.in_ok-tables.tables in
    let new : PassState = record { placed = c.in_ok-placed.placed; points = c.begin.new.points; waiting = c.in_ok-waiting.waiting; eligible = t.sources; slack = t.slack; latest = 0 } in
    let count : length c.activities-size.result.now ≡ size p = ap length c.activities-size.ensures.all in
    let e = c.in_ok-placed.ensures in
    let first : IsFirst p t new = record {
      memory = omega (arith, count, c.in_ok-placed.ensures.capacity, c.in_ok-placed.ensures.exact);
      room = omega (arith, count, c.begin.ensures.memory, c.in_ok-points.ensures.capacity, c.in_ok-points.ensures.exact);
      linked = c.begin.ensures.linked;
      two = c.begin.ensures.two;
      begins = c.begin.ensures.begins;
      left = c.begin.ensures.left;
      waiting = c.in_ok-waiting.ensures ∙ c.deref.ensures.value;
      eligible = refl;
      slack = refl;
      latest = refl;
    } in
    let state : IsState p c.in_ok-placed.placed.items false new = subst (λ (xs : List Placed). IsState p xs false new) (sym c.in_ok-placed.ensures.items) (state_first p t new c.in_ok-tables.ensures first) in
    subst (λ (q : ProjectData). AreTables q t × IsState q c.in_ok-placed.placed.items false new) (sym c.in_ok-project.ensures) (c.in_ok-tables.ensures, state)
