use Rattle.std.proofs.Common.{ℕ, ◌-◌, [], ◌∷◌, ◌++◌, refl, ap, ◌∙◌}
use Rattle.std.proofs.Math.Nat.{sub-zero}
use Rattle.psplib_mm.specs.Contents.{job_at, times}
use Rattle.psplib_mm.proofs.Steps.{onto_nil, times_more, times_ends, ok_from, job_fails}
use Rattle.psplib_mm.proofs.jobs.Jobs.of.Goals as goal

pub loop-init : goal.loop-init
loop-init c = ([], onto_nil (times job_at (c.args.count - 0) c.args.cells.now) ∙ ap (λ (n : ℕ). times job_at n c.args.cells.now) (sub-zero c.args.count))

pub returns-in_default : goal.returns-in_default
returns-in_default c =
    let fails = job_fails c.loop.rest.now c.in_default.ensures in
    let ends = times_ends job_at c.loop.invariant.0 c.args.count c.loop.counter c.loop.rest.now _ (times job_at c.args.count c.args.cells.now) c.loop-test.true fails c.loop.invariant.1 in
    rw ends refl

pub loop-preserved : goal.loop-preserved
loop-preserved c = (
  c.loop.invariant.0 ++ c.in-Some.field-0-0 ∷ [],
  times_more job_at c.loop.invariant.0 c.args.count c.loop.counter c.loop.rest.now c.in-Some.after.now c.in-Some.field-0-0 (times job_at c.args.count c.args.cells.now) c.loop-test.true (ok_from _ _ c.in-Some.ensures) c.loop.invariant.1,
)
