use Rattle.std.proofs.Common.{[], ◌∷◌, ◌++◌, refl, ap}
use Rattle.psplib_mm.specs.Contents.{Job, groups_at}
use Rattle.psplib_mm.proofs.Steps.{groups_more, groups_ends, ok_from, group_fails}
use Rattle.psplib_mm.proofs.groups.Groups.of.Goals as goal

pub returns-in_default-group_of : goal.returns-in_default-group_of
returns-in_default-group_of c =
    let r = c.args.resources.renewable in
    let v = c.args.resources.nonrenewable in
    let n = c.job.inside.modes.number in
    let fails = group_fails r v n c.loop-job.rest.now c.in_default-group_of.ensures in
    let ends = groups_ends r v n c.loop-job.invariant.0 c.in-Some.job c.next_job.new.self c.loop-job.rest.now _ (groups_at r v c.args.jobs.now c.args.cells.now) (ap (λ (j : Job). j.modes.number) c.job.view_is) fails (rw c.in-Some.ensures at c.loop-job.invariant.1) in
    rw ends refl

pub loop-job-preserved : goal.loop-job-preserved
loop-job-preserved c =
    let r = c.args.resources.renewable in
    let v = c.args.resources.nonrenewable in
    let n = c.job.inside.modes.number in
    let first = c.in-Some-group_of.field-0-0 in (
      c.loop-job.invariant.0 ++ first ∷ [],
      groups_more r v n c.loop-job.invariant.0 c.in-Some.job c.next_job.new.self c.loop-job.rest.now c.in-Some-group_of.after.now first (groups_at r v c.args.jobs.now c.args.cells.now) (ap (λ (j : Job). j.modes.number) c.job.view_is) (ok_from _ _ c.in-Some-group_of.ensures) (rw c.in-Some.ensures at c.loop-job.invariant.1),
    )
