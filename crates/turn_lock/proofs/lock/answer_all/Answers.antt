use Rattle.std.proofs.Common.{◌≡◌, ◌+◌, arith, ap, sym, subst, ◌∙◌, ◌++◌, ◌∷◌, [], length, take, length-append}
use Rattle.std.proofs.lemmas.List.{take_more}
use Rattle.turn_lock.specs.Values.{Keeps}
use Rattle.turn_lock.proofs.Keeps.{made_more}
use Rattle.turn_lock.proofs.lock.answer_all.Goals as goal

pub loop-query-preserved : goal.loop-query-preserved
loop-query-preserved g c =
    let k = g.T.Kept in
    let q = g.T.Queries in
    let inv = c.loop-query.invariant in
    let i = c.loop-query.query-index in
    let query = c.query-item.result in
    let next : Keeps k.opening k.events k.relation c.loop-query.value (q.asked query) (q.replied c.answer.result) c.answer.new.self = subst (λ x. (t : g.row.T.Denot) (a : g.row.T-Reply.Denot) (u : g.row.T.Denot) → q.gives t x a u → Keeps k.opening k.events k.relation t (q.asked x) (q.replied a) u) (sym c.query-item.is) (c.requires.keeps i query c.loop-query-test.true) c.loop-query.value c.answer.result c.answer.new.self c.answer.ensures in
    record {
      opening = next.0 ∙ inv.opening;
      made = made_more k.opening k.events k.relation (k.opening c.args.value.now) q.asked q.replied c.args.value.now c.loop-query.value c.answer.new.self (take i c.args.queries.now) (take (i + 1) c.args.queries.now) c.loop-query.replies.items c.push_reserved.new.self.items query c.answer.result
          inv.made next (take_more c.args.queries.now i query c.loop-query-test.true ∙ ap (λ x. take i c.args.queries.now ++ x ∷ []) (sym c.query-item.is)) c.push_reserved.ensures.items;
      count = omega (arith, inv.count, ap length c.push_reserved.ensures.items, length-append c.loop-query.replies.items (c.answer.result ∷ []));
      capacity = c.push_reserved.ensures.capacity ∙ inv.capacity;
    }
