use Rattle.std.proofs.Common.{arith}
use Rattle.serial_sgs.proofs.KeptLemmas.{kept_nil, table_short}
use Rattle.serial_sgs.proofs.OrderLemmas.{readied_clear}
use Rattle.serial_sgs.proofs.board.Board.clear.Goals as goal

pub invariant_of-self : goal.invariant_of-self
invariant_of-self c =
    let b = c.self.inside in
    let was = c.self.invariant in
    rw c.clear.ensures.items
    (kept_nil b.project _ c.restart.new.self b.at_least c.begin.new.points.items _ b.before.items b.after.items b.rows b.finishes.items b.readies.items was.board.project (omega (arith, c.clear.ensures.capacity, was.memory)) (rw c.deref.ensures.value at c.restart.ensures) was.least_of_all was.before was.after was.tabled was.noted (readied_clear b.project b.placed.items b.readies.items was.readied was.board) (c.begin.ensures.profile 8 (omega arith)) c.begin.ensures.one (omega (arith, c.begin.ensures.memory, was.roomy)))

pub restart-requires-clause-short : goal.restart-requires-clause-short
restart-requires-clause-short c =
    let b = c.self.inside in
    rw c.deref.ensures.value (table_short b.project b.before.items c.self.invariant.board.project.few c.self.invariant.before)
