use Rattle.std.proofs.Common.{◌≡◌, ◌<◌, ◌≤◌, arith, slice_index}
use Rattle.mrcpsp.specs.Project.{size}
use Rattle.mrcpsp.proofs.LimitLemmas.{kept}
use Rattle.mrcpsp.specs.Values.{shortest}
use Rattle.schedule_clauses.specs.Size.{head}
use Rattle.schedule_clauses.proofs.SizeLemmas.{head-small, shortest-few}
use Rattle.schedule_clauses.proofs.size.head_of.Goals as goal

pub overflow_add-ready : goal.overflow_add-ready
overflow_add-ready c =
    let p = c.args.project.now in
    let j = c.loop-before.before in
    let inside : j < c.args.activity = omega arith in
    let is : slice_index c.args.heads.now j ≡ head p j = c.requires.heads.each j inside in
    let least : c.least_of.result ≡ shortest p j = c.least_of.ensures in
    let few : size p ≤ 202 = (kept p c.activities.ensures.project).few in
    omega (arith, head-small p j c.activities.ensures.project, shortest-few p j c.activities.ensures.project, c.requires.activity)
