use Rattle.std.proofs.Common.{◌≡◌, arith}
use Rattle.serial_sgs.specs.Order.{IsBefore}
use Rattle.serial_sgs.proofs.OrderLemmas.{before_all}
use Rattle.serial_sgs.proofs.order.predecessors_of.Goals as goal

pub returns : goal.returns
returns c =
    let whole : c.loop-other.other ≡ c.args.activity = omega (arith, c.loop-other-test.false, c.loop-other.auto.other-end) in
    before_all c.args.project.now c.args.activity c.loop-other.before.items c.requires.project c.requires.activity (rw whole at c.loop-other.invariant)
