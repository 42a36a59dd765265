use Rattle.std.proofs.Common.{ℕ, ◌-◌, [], ◌∷◌, ◌++◌, ap, ◌∙◌}
use Rattle.std.proofs.Math.Nat.{sub-zero}
use Rattle.psplib_mm.specs.Contents.{mode_at, times}
use Rattle.psplib_mm.proofs.Steps.{onto_nil, times_more, ok_from}
use Rattle.psplib_mm.proofs.groups.modes_of.Goals as goal

pub loop-init : goal.loop-init
loop-init c =
    let step = mode_at c.args.resources.renewable c.args.resources.nonrenewable in
    ([], onto_nil (times step (c.args.count - 0) c.args.cells.now) ∙ ap (λ (n : ℕ). times step n c.args.cells.now) (sub-zero c.args.count))

pub loop-preserved : goal.loop-preserved
loop-preserved c =
    let step = mode_at c.args.resources.renewable c.args.resources.nonrenewable in (
      c.loop.invariant.0 ++ c.in_ok-after.field-0-0 ∷ [],
      times_more step c.loop.invariant.0 c.args.count c.loop.counter c.loop.rest.now c.in_ok-after.after.now c.in_ok-after.field-0-0 (times step c.args.count c.args.cells.now) c.loop-test.true (ok_from _ _ c.in_ok-after.ensures) c.loop.invariant.1,
    )
