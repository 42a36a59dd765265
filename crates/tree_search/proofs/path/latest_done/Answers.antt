use Rattle.std.proofs.Common.{◌≡◌, max, get_or, arith, ⊎_elim}
use Rattle.std.proofs.lemmas.Bool.{cases_eq}
use Rattle.tree_search.proofs.path.latest_done.Goals as goal

pub loop-place-preserved : goal.loop-place-preserved
loop-place-preserved c =
    let so_far = c.loop-place.invariant in
    let i = c.loop-place.place in
    let own = get_or c.args.finishes.now (get_or c.args.before.now i 0) 0 in
    let now : c.max-latest.result ≡ max c.loop-place.latest own = c.max-latest.ensures in
    record {
      all = λ k l. ⊎_elim (λ (e : k ≡ i). rw e (omega (arith, now))) (λ (ne : k ≡ i → ⊥). omega (arith, so_far.all k (omega arith), now)) (cases_eq k i);
      last = omega (arith, so_far.last, now);
      least = λ t h. omega (arith, so_far.least t h, h i (omega (arith, c.loop-place-test.true)), now);
      done = λ k l. ⊎_elim (λ (e : k ≡ i). rw e (omega (arith, c.if-finish.false))) (λ (ne : k ≡ i → ⊥). so_far.done k (omega arith)) (cases_eq k i);
      there = so_far.there;
    }

pub returns-clause-undone : goal.returns-clause-undone
returns-clause-undone c late done =
    let so_far = c.loop-place.invariant in
    omega (arith, late, so_far.least 4294967294 (λ k l. omega (arith, done k l)))
