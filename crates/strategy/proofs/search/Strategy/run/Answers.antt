use Rattle.std.proofs.Common.{◌≡◌, ◌+◌, ◌-◌, ◌<◌, min, false, arith, sym, ap, ◌∙◌}
use Rattle.quanta_till.specs.Lease.{after_use}
use Rattle.strategy.specs.Outcome.{is_closed}
use Rattle.strategy.specs.Search.{Meaning, shown_closed, advanced}
use Rattle.strategy.proofs.RunLemmas.{ran_none, ran_next, used_none, used_next, run_start, run_more, closed_here}
use Rattle.strategy.proofs.search.Strategy.run.Goals as goal

pub loop-ran-init : goal.loop-ran-init
loop-ran-init g c =
    let m : Meaning = g.Self.Strategy.meaning c.args.self.now in
    record { shown = ran_none m; used = used_none (g.Self.Strategy.lease c.args.self.now); untaken = c.requires; within = omega arith; ahead = run_start c.args.most m }

pub loop-ran-preserved : goal.loop-ran-preserved
loop-ran-preserved g c =
    let m : Meaning = g.Self.Strategy.meaning c.args.self.now in
    let i = c.loop-ran.invariant in
    let r = c.loop-ran.ran in
    let left : m.left - r ≡ c.left.result = sym (c.left.ensures.shown ∙ ap (λ (x : Meaning). x.left) i.shown) in
    let less : r < min c.args.most m.left = omega arith in
    let going : is_closed m.plan (m.nodes + r) ≡ false = sym (closed_here m r i.untaken) ∙ sym (ap shown_closed i.shown) ∙ sym c.closed.ensures ∙ c.if-not-closed.true in
    record {
      shown = c.advance.ensures.shown ∙ ap advanced i.shown ∙ ran_next m r;
      used = c.advance.ensures.used ∙ ap (λ l. after_use l 1) i.used ∙ used_next (g.Self.Strategy.lease c.args.self.now) r;
      untaken = i.untaken;
      within = omega arith;
      ahead = i.ahead ∙ run_more (min c.args.most m.left) m.plan m.nodes r less going;
    }
