use Rattle.std.proofs.Common.{◌≡◌, ◌+◌, ◌≤◌, min, false, arith, refl, sym}
use Rattle.paid_search.proofs.PaidLemmas.{meaning_from, all_within}
use Rattle.paid_search.proofs.paid.PaidStrategy.run.Goals as goal

pub run_nodes-ran-requires : goal.run_nodes-ran-requires
run_nodes-ran-requires g c =
    let s = c.self.inside in
    let untaken : s.taken ≡ false = rw (← c.self.view_is) at c.requires in
    record {
      plan = s.plan;
      nodes = s.nodes;
      here = c.self.invariant.here untaken;
      few = omega (arith, c.self.invariant.limited, c.min.ensures, c.left.ensures.left);
    }

pub use_up-requires : goal.use_up-requires
use_up-requires g c = omega (arith, c.run_nodes-ran.ensures.most, c.min.ensures, c.left.ensures.left)

pub overflow_add-self : goal.overflow_add-self
overflow_add-self g c = omega (arith, c.run_nodes-ran.ensures.most, c.min.ensures, c.left.ensures.left, c.self.invariant.limited)

pub invariant_of-self : goal.invariant_of-self
invariant_of-self g c =
    let s = c.self.inside in
    let r = c.run_nodes-ran.result in
    let i = c.self.invariant in
    let untaken : s.taken ≡ false = rw (← c.self.view_is) at c.requires in
    let here = c.run_nodes-ran.ensures.ran s.plan s.nodes (i.here untaken) in
    let few : r ≤ s.lease.left = omega (arith, c.run_nodes-ran.ensures.most, c.min.ensures, c.left.ensures.left) in
    rw c.use_up.ensures (record {
      paid = omega (arith, i.paid);
      limited = omega (arith, i.limited, few);
      bounded = i.bounded;
      shown = c.verdict_by-self-inside.ensures s.plan (s.nodes + r) refl (c.makespan.ensures s.plan (s.nodes + r) here) i.bounded (c.all_run.ensures s.plan (s.nodes + r) here);
      here = λ _. here;
    })

pub returns-clause-ran : goal.returns-clause-ran
returns-clause-ran g c =
    let s = c.self.inside in
    let r = c.run_nodes-ran.result in
    let untaken : s.taken ≡ false = rw (← c.self.view_is) at c.requires in
    let here = c.self.invariant.here untaken in
    let limit : c.min.result ≡ min c.args.most s.lease.left = omega (arith, c.min.ensures, c.left.ensures.left) in
    rw (← c.self.view_is, untaken) (sym (all_within c.args.most (meaning_from s.plan s.lease s.nodes) c.min.result r limit c.run_nodes-ran.ensures.most (c.run_nodes-ran.ensures.going s.plan s.nodes here) (c.run_nodes-ran.ensures.over s.plan s.nodes here)))
