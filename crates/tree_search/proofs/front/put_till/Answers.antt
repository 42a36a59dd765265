use Rattle.std.proofs.Common.{◌≡◌, ℕ, ◌+◌, ◌<◌, ◌≤◌, List, [], ◌∷◌, ◌++◌, get_or, set, take, length, length-set, arith, ap, ◌∙◌, ⊎_elim}
use Rattle.std.proofs.lemmas.Bool.{cases_lt}
use Rattle.std.proofs.lemmas.List.{take_more_set, length-take-le}
use Rattle.std.proofs.lemmas.List.Elements.{All-set}
use Rattle.tree_search.specs.declared.front.Running.{Running}
use Rattle.tree_search.specs.Front.{finish_at, no_running, returned_by}
use Rattle.tree_search.specs.Width.{IsNone}
use Rattle.tree_search.proofs.FrontLemmas.{finish_before, finish_last, finish_push, next_back, push_back, rising_push}
use Rattle.tree_search.proofs.front.put_till.Goals as goal

pub loop-at-preserved : goal.loop-at-preserved
loop-at-preserved c =
    let running = c.args.running.now in
    let at : ℕ = c.loop-at.at in
    let so_far = c.loop-at.invariant in
    let end : ℕ = c.loop-at.end in
    let was : List Running = take end c.loop-at.later in
    let a : Running = c.overwrite.new.self in
    let own : a ≡ get_or running at no_running = c.overwrite.ensures in
    let some : end < length c.loop-at.later = omega (arith, so_far.memory, so_far.count, c.requires.memory, c.loop-at-test.true) in
    let is : take (end + 1) (set c.loop-at.later end a) ≡ was ++ a ∷ [] = take_more_set c.loop-at.later end a some in
    let filled : length was ≡ end = length-take-le end c.loop-at.later (omega (arith, some)) in
    let under : (i : ℕ) → i < length was → finish_at was i ≤ a.finish = λ i l. rw own (so_far.under i at (omega (arith, l, filled)) (omega arith) c.loop-at-test.true) in
    record {
      inside = omega (arith, c.loop-at-test.true);
      above = omega (arith, so_far.above);
      memory = length-set c.loop-at.later end a ∙ so_far.memory;
      count = omega (arith, so_far.count);
      risen = rw is (rising_push was a so_far.risen under);
      under = rw is (λ i k l above inside. finish_push was a (finish_at running k) (λ i2 l2. so_far.under i2 k (omega (arith, l2, filled)) (omega arith) inside) (rw own (c.requires.rising at k (omega arith) inside)) i (omega (arith, l, filled)));
      early = rw is (λ i above l.
          ⊎_elim
          (λ (before : i < length was). omega (arith, finish_before was a i before, so_far.early i above (omega (arith, before, filled))))
          (λ (here : length was ≤ i). omega (arith, finish_last was a i (omega (arith, here, l, filled)), ap (λ (x : Running). x.finish) own, c.if-running-at.true))
          (cases_lt i (length was)));
      kept = rw is (λ r t. omega (arith, so_far.kept r t, push_back was a r t, ap (returned_by r t) own, next_back running at r t c.loop-at-test.true));
      none = λ kinds ran blank. All-set (λ (b : Running). IsNone kinds b.request) c.loop-at.later end a (rw own (ran at no_running c.loop-at-test.true)) (so_far.none kinds ran blank);
    }

pub overwrite-requires : goal.overwrite-requires
overwrite-requires c =
    let at : ℕ = c.loop-at.at in
    let so_far = c.loop-at.invariant in
    let some : c.loop-at.end < length c.loop-at.later = omega (arith, so_far.memory, so_far.count, c.requires.memory, c.loop-at-test.true) in
    record {
      lanes = c.requires.lanes;
      none = c.requires.none at no_running c.loop-at-test.true;
      beyond = so_far.none c.args.lanes c.requires.none c.requires.beyond c.loop-at.end no_running some;
    }
