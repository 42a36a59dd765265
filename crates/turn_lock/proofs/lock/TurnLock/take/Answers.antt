use Rattle.std.proofs.Common.{rules, arith, sym, ap, ◌∙◌, ◌∷◌, Some}
use mathlib.Core.Option.{none}
use Rattle.atomic_table.specs.Table.{rest, step}
use Rattle.turn_lock.proofs.Keeps.{takes_turn}
use Rattle.turn_lock.proofs.lock.TurnLock.take.Goals as goal

pub compare_exchange-requires : goal.compare_exchange-requires
compare_exchange-requires g c =
    let k = g.T.Kept in
    let t = c.self.inside.table.shared in
    let same = c.loop.invariant.same_view in
    let seat = c.loop.seat in (
      c.loop.invariant.same_table ∙ (c.requires.own ∙ ap (λ l. l.table) (sym c.self.view_is)),
      search rules,
      takes_turn k.opening k.events k.relation (k.opening t.key.value) t.table_id.slots seat.id seat.me (ap (λ m. m.0.stage) same ∙ c.requires.idle.0) (ap (λ m. m.1) same ∙ c.requires.idle.1) (step 1 0 0 c.args.count none) (λ e. absurd (let some = c.requires.some in omega (arith, e))),
    )

pub exchange-requires : goal.exchange-requires
exchange-requires g c =
    let e = c.compare_exchange.ensures in
    let h = e.2.0 c.if-compare_exchange-eq-FREE.true in
    (e.0 ∙ (c.loop.invariant.same_table ∙ (c.requires.own ∙ ap (λ l. l.table) (sym c.self.view_is))), (Some h.value, ap (λ m. m.1) h.after ∙ ap (λ m. (0, Some h.value) ∷ rest m.1) (sym h.after)))

pub loop-preserved : goal.loop-preserved
loop-preserved g c =
    let e = c.compare_exchange.ensures in
    record {
      same_table = e.0 ∙ c.loop.invariant.same_table;
      same_view = e.2.1 c.if-compare_exchange-eq-FREE.false ∙ c.loop.invariant.same_view;
    }
