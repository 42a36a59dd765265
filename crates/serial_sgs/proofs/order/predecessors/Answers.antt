use Rattle.mrcpsp.proofs.LimitLemmas.{kept}
use Rattle.serial_sgs.proofs.OrderLemmas.{before_push}
use Rattle.serial_sgs.proofs.order.predecessors.Goals as goal

pub predecessors_of-requires-clause-project : goal.predecessors_of-requires-clause-project
predecessors_of-requires-clause-project c = kept _ c.activities.ensures.project

pub loop-activity-preserved : goal.loop-activity-preserved
loop-activity-preserved c =
    rw (c.in_ok-push.ensures.items, c.from.ensures) (before_push c.args.project.now c.loop-activity.activity c.loop-activity.table.items c.in_ok-predecessors_of.field-0.items c.loop-activity.invariant c.in_ok-predecessors_of.ensures)
