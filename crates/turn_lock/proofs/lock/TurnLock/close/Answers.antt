use Rattle.std.proofs.Common.{ap}
use Rattle.std.specs.Slots.{slots_items}
use Rattle.turn_lock.proofs.Keeps.{ends_with}
use Rattle.turn_lock.proofs.lock.TurnLock.close.Goals as goal

pub returns-then-word-eq-FREE : goal.returns-then-word-eq-FREE
returns-then-word-eq-FREE g c =
    let k = g.T.Kept in
    let closed = c.close_with-closed in
    ends_with k.opening k.events k.relation (k.opening c.self.inside.table.shared.key.value) c.args.pass.view c.pass.inside.seat.me.0 c.pass.inside.seat.id (slots_items closed.result.words) (slots_items closed.result.slots) c.word-word.result c.take-value.result
    (ap (λ p. p.view) c.pass.view_is) c.pass.invariant.1 closed.ensures.values.2 c.word-word.ensures c.if-word-eq-FREE.true c.take-value.ensures.value
