use Rattle.std.proofs.Common.{rules, arith, ◌≡◌, ◌<◌, ◌∙◌, sym, ap, refl, map, length}
use Rattle.std.proofs.lemmas.List.{length-map}
use Rattle.turn_lock.proofs.Keeps.{may_end, all_made, called_at}
use Rattle.turn_lock.proofs.lock.TurnLock.with_queries.Goals as goal

pub end_turn-requires-clause-value : goal.end_turn-requires-clause-value
end_turn-requires-clause-value g c =
    let k = g.T.Kept in
    may_end k.opening k.events k.relation c.args.self.now.opening c.pass.inside.seat.me.0 (length c.args.queries.now) c.take-value.result c.answer_all.new.value c.take-value.new.seat.me (map g.T.Queries.asked c.args.queries.now) (map g.T.Queries.replied c.answer_all.new.replies.items)
    c.take-value.ensures.took c.answer_all.ensures.kept

pub returns-clause-called : goal.returns-clause-called
returns-clause-called g c =
    let k = g.T.Kept in
    let said = map g.T.Queries.asked c.args.queries.now in
    let told = map g.T.Queries.replied c.answer_all.new.replies.items in
    let some : 0 < length c.args.queries.now = search rules in
    called_at k.opening k.events k.relation c.args.self.now.opening c.args.pass.now.view c.pass.inside.seat.me.0 c.end_turn.new.seat.me.0 said told (ap (λ p. p.view) c.pass.view_is)
    (all_made k.opening k.events k.relation c.args.self.now.opening c.pass.inside.seat.me.0 (length c.args.queries.now) c.take-value.result c.answer_all.new.value c.take-value.new.seat.me c.end_turn.new.seat.me said told c.pass.invariant.1 (sym (length-map c.args.queries.now g.T.Queries.asked)) some
    c.take-value.ensures.took c.answer_all.ensures.kept c.end_turn.ensures.made)
