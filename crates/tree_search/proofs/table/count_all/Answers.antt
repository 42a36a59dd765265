use Rattle.std.proofs.Common.{◌<◌, arith}
use Rattle.mrcpsp.specs.Project.{size}
use Rattle.tree_search.proofs.TableLemmas.{before_next, before_none}
use Rattle.tree_search.proofs.table.count_all.Goals as goal

pub loop-activity-init : goal.loop-activity-init
loop-activity-init c = record { sum = omega (arith, before_none c.args.project.now); few = omega arith }

pub loop-activity-preserved : goal.loop-activity-preserved
loop-activity-preserved c =
    let p = c.args.project.now in
    let j = c.loop-activity.activity in
    let inside : j < size p = omega (arith, c.loop-activity-test.true, c.size-activity-end.ensures p c.requires.tabled) in
    let own = c.count-all.ensures p c.requires.tabled inside in
    record {
      sum = omega (arith, c.loop-activity.invariant.sum, before_next p j, own);
      few = omega (arith, c.loop-activity.invariant.few, own, (c.requires.project.moded j inside).1);
    }
