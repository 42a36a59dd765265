use Rattle.std.proofs.Common.{rules}
use mathlib.Core.Option.{none}
use Rattle.atomic_table.specs.Table.{step}
use Rattle.turn_lock.proofs.Keeps.{ends_turn_as}
use Rattle.turn_lock.proofs.lock.TurnLock.end_turn.Goals as goal

pub store-requires : goal.store-requires
store-requires g c =
    let k = g.T.Kept in
    let t = c.self.inside.table.shared in
    let seat = c.exchange.new.seat in (
      search rules,
      search rules,
      ends_turn_as k.opening k.events k.relation (k.opening t.key.value) t.table_id.slots seat.id c.args.seat.now.me seat.me c.args.value c.requires.turn.0 c.requires.turn.1 c.exchange.ensures.3 c.requires.value c.self.invariant.1 (step 1 0 0 0 none),
    )
