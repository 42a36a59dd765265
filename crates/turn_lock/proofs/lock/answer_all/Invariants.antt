use Rattle.std.proofs.Common.{◌≡◌, ◌≤◌, ◌+◌, ◌-◌, ℕ, List, length, map, take}
use Rattle.std.specs.Vec.{vec_capacity}
use Rattle.turn_lock.specs.Values.{AreKept}
use Rattle.turn_lock.proofs.lock.answer_all.Given as goal

abbrev pub invariant-loop-query : goal.invariant-loop-query
invariant-loop-query g l =
    let k = g.T.Kept in
    let q = g.T.Queries in
    record {
      opening : k.opening l.value ≡ k.opening l.fn.value;
      made : AreKept k.opening k.events k.relation l.fn.value (map q.asked (take l.query-index l.queries)) (map q.replied l.replies.items) l.value;
      count : length l.replies.items ≡ l.query-index;
      capacity : vec_capacity l.replies ≡ vec_capacity l.fn.replies;
    }
