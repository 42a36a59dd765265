use Rattle.std.proofs.Common.{◌≡◌, arith}
use Rattle.mrcpsp.specs.Project.{size}
use Rattle.mrcpsp.proofs.BreachLemmas.{overuse-at-start}
use Rattle.mrcpsp.proofs.feasibility.first_overuse.Goals as goal

pub returns : goal.returns
returns c =
    let all : c.loop-activity.activity ≡ size c.args.fitting.now.project.now = omega (arith, c.loop-activity-test.false, c.loop-activity.auto.activity-end, c.size-activity-end.ensures.exact) in
    overuse-at-start c.args.fitting.now.project.now c.args.fitting.now.schedule.now c.loop-activity.first (rw all at c.loop-activity.invariant)
