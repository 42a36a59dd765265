use Rattle.std.proofs.Common.{◌-◌, ◌≡◌, ◌≤◌, min, false}
use Rattle.quanta_till.specs.Lease.{after_use}
use Rattle.strategy.specs.Search.{Meaning, ran_on, nodes_within}
use Rattle.strategy.proofs.RunLemmas.{nodes_from}
use Rattle.strategy.proofs.search.Strategy.run.Given as goal

-- the nodes before this one have run, each of them paid, and what is left to look at begins behind
-- them
abbrev pub invariant-loop-ran : goal.invariant-loop-ran
invariant-loop-ran g l =
    let m : Meaning = g.Self.Strategy.meaning l.initial.self in
    record {
      shown : g.Self.Strategy.meaning l.self ≡ ran_on l.ran m;
      used : g.Self.Strategy.lease l.self ≡ after_use (g.Self.Strategy.lease l.initial.self) l.ran;
      untaken : m.taken ≡ false;
      within : l.ran ≤ min l.most m.left;
      ahead : nodes_within l.most m ≡ nodes_from (min l.most m.left) m.plan m.nodes l.ran;
    }

abbrev pub decreases-loop-ran : goal.decreases-loop-ran
decreases-loop-ran g l = l.most - l.ran
