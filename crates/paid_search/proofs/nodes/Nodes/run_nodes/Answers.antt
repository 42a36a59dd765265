use Rattle.std.proofs.Common.{◌≡◌, ℕ, ◌+◌, ◌<◌, ◌≤◌, false, arith, sym, ◌∙◌, ⊎_elim}
use Rattle.std.proofs.lemmas.Bool.{cases_lt}
use Rattle.strategy.specs.Outcome.{is_closed}
use Rattle.strategy.specs.declared.plan.Plan.{Plan}
use Rattle.paid_search.proofs.nodes.Nodes.run_nodes.Goals as goal

pub loop-ran-init : goal.loop-ran-init
loop-ran-init g c =
    record {
      within = omega arith;
      here = λ plan k at. let same : k + 0 ≡ k = omega arith in rw same at;
      going = λ plan k at i l. absurd (omega arith);
    }

pub advance-requires : goal.advance-requires
advance-requires g c =
    let it = c.requires in
    let r : ℕ = c.loop-ran.ran in
    let k : ℕ = it.nodes + r in
    let here = c.loop-ran.invariant.here it.plan it.nodes it.here in
    record {
      plan = it.plan;
      nodes = k;
      here = here;
      going = sym (c.stops.ensures it.plan k (c.makespan.ensures it.plan k here) (c.bound-bound.ensures it.plan it.nodes it.here) (c.all_run.ensures it.plan k here)) ∙ c.if-not-stops.true;
      few = omega (arith, it.few, c.loop-ran-test.true);
    }

pub loop-ran-preserved : goal.loop-ran-preserved
loop-ran-preserved g c =
    let r : ℕ = c.loop-ran.ran in
    let going : (plan : Plan) (k : ℕ) → g.Self.Nodes.stands c.args.self.now plan k → is_closed plan (k + r) ≡ false =
    λ plan k at.
    let here = c.loop-ran.invariant.here plan k at in
    sym (c.stops.ensures plan (k + r) (c.makespan.ensures plan (k + r) here) (c.bound-bound.ensures plan k at) (c.all_run.ensures plan (k + r) here)) ∙ c.if-not-stops.true in
    record {
      within = omega (arith, c.loop-ran-test.true);
      here = λ plan k at.
          let next : k + r + 1 ≡ k + (r + 1) = omega arith in
          rw (← next) (c.advance.ensures plan (k + r) (c.loop-ran.invariant.here plan k at) (going plan k at));
      going = λ plan k at i l.
          ⊎_elim
          (λ (before : i < r). c.loop-ran.invariant.going plan k at i before)
          (λ (last : r ≤ i). let same : i ≡ r = omega (arith, last, l) in rw same (going plan k at))
          (cases_lt i r);
    }

pub returns-else-not-stops-clause-over : goal.returns-else-not-stops-clause-over
returns-else-not-stops-clause-over g c plan k at few =
    let r : ℕ = c.loop-ran.ran in
    let here = c.loop-ran.invariant.here plan k at in
    sym (c.stops.ensures plan (k + r) (c.makespan.ensures plan (k + r) here) (c.bound-bound.ensures plan k at) (c.all_run.ensures plan (k + r) here)) ∙ c.if-not-stops.false
