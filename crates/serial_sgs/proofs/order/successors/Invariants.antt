use Rattle.serial_sgs.specs.Order.{HasAfter}
use Rattle.serial_sgs.proofs.order.successors.Given as goal

abbrev pub invariant-loop-activity : goal.invariant-loop-activity
invariant-loop-activity l = HasAfter l.project l.activity l.table.items
