use Rattle.std.proofs.Common.{◌≡◌, ℕ, ◌<◌, List, take, length, arith, ap, refl, sym, subst}
use Rattle.std.proofs.lemmas.List.{take_more_set, length-take-le}
use Rattle.std.proofs.lemmas.List.Elements.{All-set}
use Rattle.tree_search.specs.declared.front.Running.{Running}
use Rattle.tree_search.specs.Front.{IsRising, no_running, returned, returned_by}
use Rattle.tree_search.specs.Width.{IsNone}
use Rattle.tree_search.proofs.FrontLemmas.{none_back, nothing_back, past_back, push_back, rising_push, taken_or_back}
use Rattle.tree_search.proofs.front.run_into.Goals as goal

pub subtract-requires : goal.subtract-requires
subtract-requires c =
    let running = c.args.running.now in
    let first : ℕ = c.give_back-first.result in
    let start : ℕ = c.args.start in
    record {
      enough = λ r among. omega (arith, c.requires.room (omega (arith, c.if-new-start.false)) r among, c.give_back-first.ensures.kept r start among (omega arith), none_back running first r start (λ k above inside. c.give_back-first.ensures.beyond k above inside));
      lanes = c.requires.lanes;
      none = c.requires.none;
    }

pub put_till-end-requires-2-clause-risen : goal.put_till-end-requires-2-clause-risen
put_till-end-requires-2-clause-risen c =
    let place : ℕ = c.put_till-middle.result.1 in
    let later = c.put_till-middle.new.later in
    let some : place < length later = omega (arith, c.put_till-middle.ensures.count, c.put_till-middle.ensures.memory, c.put_till-middle.ensures.inside, c.requires.memory) in
    let filled : length (take place later) ≡ place = length-take-le place later (omega (arith, some)) in
    let a : Running = c.overwrite.new.self in
    let own : a ≡ c.args.new = c.overwrite.ensures in
    subst IsRising (sym (take_more_set later place a some)) (rising_push (take place later) a c.put_till-middle.ensures.risen (λ i l. rw own (c.put_till-middle.ensures.early i (omega arith) (omega (arith, l, filled)))))

pub returns-clause-kept : goal.returns-clause-kept
returns-clause-kept c r t among late =
    let running = c.args.running.now in
    let place : ℕ = c.put_till-middle.result.1 in
    let later = c.put_till-middle.new.later in
    let some : place < length later = omega (arith, c.put_till-middle.ensures.count, c.put_till-middle.ensures.memory, c.put_till-middle.ensures.inside, c.requires.memory) in
    let a : Running = c.overwrite.new.self in
    let own : a ≡ c.args.new = c.overwrite.ensures in
    omega (arith, c.give_back-first.ensures.kept r t among late, c.subtract.ensures r among, nothing_back r t, c.put_till-middle.ensures.kept r t, ap (λ (xs : List Running). returned xs r t) (take_more_set later place a some), push_back (take place later) a r t, ap (returned_by r t) own, c.put_till-end-2.ensures.kept r t, past_back running c.put_till-end-2.result.0 r t (omega (arith, c.put_till-end-2.ensures.all refl)), taken_or_back r t c.args.new)

pub overwrite-requires : goal.overwrite-requires
overwrite-requires c =
    let place : ℕ = c.put_till-middle.result.1 in
    let some : place < length c.put_till-middle.new.later = omega (arith, c.put_till-middle.ensures.count, c.put_till-middle.ensures.memory, c.put_till-middle.ensures.inside, c.requires.memory) in
    record {
      lanes = c.requires.lanes;
      none = c.requires.none;
      beyond = c.put_till-middle.ensures.none c.args.lanes c.requires.listed c.requires.blank place no_running some;
    }

pub put_till-end-requires-2-clause-beyond : goal.put_till-end-requires-2-clause-beyond
put_till-end-requires-2-clause-beyond c =
    All-set (λ (b : Running). IsNone c.args.lanes b.request) c.put_till-middle.new.later c.put_till-middle.result.1 c.overwrite.new.self (rw c.overwrite.ensures c.requires.none) (c.put_till-middle.ensures.none c.args.lanes c.requires.listed c.requires.blank)

pub returns-clause-none : goal.returns-clause-none
returns-clause-none c kinds own ran was =
    c.put_till-end-2.ensures.none kinds ran (All-set (λ (b : Running). IsNone kinds b.request) c.put_till-middle.new.later c.put_till-middle.result.1 c.overwrite.new.self (rw c.overwrite.ensures own) (c.put_till-middle.ensures.none kinds ran was))
