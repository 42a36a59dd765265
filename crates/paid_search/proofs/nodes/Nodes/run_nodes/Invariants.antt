use Rattle.std.proofs.Common.{◌≡◌, ℕ, ◌-◌, ◌+◌, ◌<◌, ◌≤◌, false}
use Rattle.strategy.specs.Outcome.{is_closed}
use Rattle.strategy.specs.declared.plan.Plan.{Plan}
use Rattle.paid_search.proofs.nodes.Nodes.run_nodes.Given as goal

-- so many nodes have run, and the search was not over at any of them
abbrev pub invariant-loop-ran : goal.invariant-loop-ran
invariant-loop-ran g l = record {
  within : l.ran ≤ l.most;
  here : (plan : Plan) (k : ℕ) → g.Self.Nodes.stands l.initial.self plan k → g.Self.Nodes.stands l.self plan (k + l.ran);
  going : (plan : Plan) (k : ℕ) → g.Self.Nodes.stands l.initial.self plan k → (i : ℕ) → i < l.ran → is_closed plan (k + i) ≡ false;
}

abbrev pub decreases-loop-ran : goal.decreases-loop-ran
decreases-loop-ran g l = l.most - l.ran
