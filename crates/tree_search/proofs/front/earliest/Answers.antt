use Rattle.std.proofs.Common.{ℕ, ◌<◌, ◌≤◌, inr, get_or, length, arith}
use Rattle.std.proofs.lemmas.Bool.{both_ways}
use Rattle.tree_search.specs.Front.{finish_at, no_running}
use Rattle.tree_search.proofs.FrontLemmas.{back_by, back_most, next_back, none_back, rising_from, short_of, some_runs}
use Rattle.tree_search.proofs.front.earliest.Goals as goal

pub fits-requires-clause-few : goal.fits-requires-clause-few
fits-requires-clause-few c r among =
    omega (arith, c.loop-start.invariant.same r c.loop-start.start among (omega arith), c.requires.few r c.loop-start.start among)

pub fits-requires-clause-beyond : goal.fits-requires-clause-beyond
fits-requires-clause-beyond c r past among =
    omega (arith, c.loop-start.invariant.same r c.loop-start.start among (omega arith), c.requires.beyond r c.loop-start.start past among)

pub bounds-running-at : goal.bounds-running-at
bounds-running-at c =
    let running = c.args.running.now in
    let at : ℕ = c.loop-start.at in
    some_runs c.args.free.now c.loop-start.left c.args.request.now running at c.requires.enough c.loop-start.invariant.most (λ fit. both_ways c.fits.result c.loop-start-test.true (c.fits.ensures.1 fit))

pub add-requires : goal.add-requires
add-requires c =
    let running = c.args.running.now in
    let at : ℕ = c.loop-start.at in
    let inside : at < length running = some_runs c.args.free.now c.loop-start.left c.args.request.now running at c.requires.enough c.loop-start.invariant.most (λ fit. both_ways c.fits.result c.loop-start-test.true (c.fits.ensures.1 fit)) in
    let t : ℕ = finish_at running at in
    let later : c.loop-start.start ≤ t = c.loop-start.invariant.order at (omega arith) inside in
    record {
      few = λ r among. omega (arith, c.loop-start.invariant.same r t among later, c.requires.few r t among, next_back running at r t inside, back_by r t (get_or running at no_running) (omega arith));
      lanes = c.requires.lanes;
      none = λ r past among. omega (arith, c.loop-start.invariant.same r t among later, c.requires.beyond r t past among, next_back running at r t inside, back_by r t (get_or running at no_running) (omega arith));
    }

pub loop-start-smaller : goal.loop-start-smaller
loop-start-smaller c =
    let running = c.args.running.now in
    let at : ℕ = c.loop-start.at in
    let inside : at < length running = some_runs c.args.free.now c.loop-start.left c.args.request.now running at c.requires.enough c.loop-start.invariant.most (λ fit. both_ways c.fits.result c.loop-start-test.true (c.fits.ensures.1 fit)) in
    omega (arith, inside)

pub loop-start-preserved : goal.loop-start-preserved
loop-start-preserved c =
    let running = c.args.running.now in
    let at : ℕ = c.loop-start.at in
    let so_far = c.loop-start.invariant in
    let inside : at < length running = some_runs c.args.free.now c.loop-start.left c.args.request.now running at c.requires.enough c.loop-start.invariant.most (λ fit. both_ways c.fits.result c.loop-start-test.true (c.fits.ensures.1 fit)) in
    let finish : ℕ = finish_at running at in
    let later : c.loop-start.start ≤ finish = so_far.order at (omega arith) inside in
    record {
      inside = omega (arith, inside);
      order = λ k above within. rising_from running at k c.requires.rising (omega arith) within;
      same = λ r t among late. omega (arith, so_far.same r t among (omega (arith, late, later)), next_back running at r t inside, back_by r t (get_or running at no_running) late, c.add.ensures r among);
      most = λ r t among. omega (arith, so_far.most r t among, next_back running at r t inside, back_most r t (get_or running at no_running), c.add.ensures r among);
      first =
          let (r, among, short) = short_of c.loop-start.left c.args.request.now 8 (λ fit. both_ways c.fits.result c.loop-start-test.true (c.fits.ensures.1 fit)) in
          inr (r, among, λ t early. omega (arith, short, so_far.most r t among, none_back running at r t (λ i above within. omega (arith, early, rising_from running at i c.requires.rising above within))));
    }
