use Rattle.std.proofs.Common.{◌≡◌, ℕ, get_or, arith, ap, ⊎_elim}
use Rattle.std.proofs.lemmas.Bool.{cases_eq}
use Rattle.tree_search.specs.Front.{finish_at, no_running}
use Rattle.tree_search.proofs.FrontLemmas.{next_back, back_by}
use Rattle.tree_search.proofs.front.give_back.Goals as goal

pub add-requires : goal.add-requires
add-requires c =
    let running = c.args.running.now in
    let at : ℕ = c.loop-at.at in
    let start : ℕ = c.args.start in
    record {
      few = λ r among. omega (arith, c.loop-at.invariant.same r start among (omega arith), c.requires.few r start among, next_back running at r start c.loop-at-test.true, back_by r start (get_or running at no_running) c.if-running-at.true);
      lanes = c.requires.lanes;
      none = λ r past among. omega (arith, c.loop-at.invariant.same r start among (omega arith), c.requires.beyond r start past among, next_back running at r start c.loop-at-test.true, back_by r start (get_or running at no_running) c.if-running-at.true);
    }

pub loop-at-preserved : goal.loop-at-preserved
loop-at-preserved c =
    let running = c.args.running.now in
    let at : ℕ = c.loop-at.at in
    let so_far = c.loop-at.invariant in
    record {
      inside = omega (arith, c.loop-at-test.true);
      done = λ k before.
          ⊎_elim
          (λ (e : k ≡ at). omega (arith, ap (finish_at running) e, c.if-running-at.true))
          (λ (ne : k ≡ at → ⊥). so_far.done k (omega arith))
          (cases_eq k at);
      same = λ r t among late. omega (arith, so_far.same r t among late, next_back running at r t c.loop-at-test.true, back_by r t (get_or running at no_running) (omega (arith, late, c.if-running-at.true)), c.add.ensures r among);
    }
