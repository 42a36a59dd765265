use Rattle.std.proofs.Common.{◌≡◌, ℕ, ◌+◌, ◌-◌, ◌<◌, ◌≤◌, false, Some}
use Rattle.strategy.specs.Outcome.{is_closed, is_at_bound}
use Rattle.strategy.specs.declared.plan.Plan.{Plan}
use Rattle.tree_search.specs.Search.{StandsAt}
use Rattle.tree_search.specs.Tree.{best_in}
use Rattle.tree_search.proofs.search.Tree.run_with.Given as goal

-- so many nodes have run, and before none of them nor before the next one the search was over
abbrev pub invariant-loop-next : goal.invariant-loop-next
invariant-loop-next l = record {
  within : l.left ≤ l.most;
  some : 0 < l.left;
  wide : l.self.width ≡ l.width;
  here : (plan : Plan) (k : ℕ) → StandsAt l.initial.self plan k → StandsAt (record l.self { top = Some l.candidate }) plan (k + (l.most - l.left));
  above : (plan : Plan) (k : ℕ) → StandsAt l.initial.self plan k → is_at_bound plan.project (best_in l.self.incumbent) ≡ false;
  going : (plan : Plan) (k : ℕ) → StandsAt l.initial.self plan k → (i : ℕ) → i < l.most - l.left → is_closed plan (k + i) ≡ false;
}

abbrev pub decreases-loop-next : goal.decreases-loop-next
decreases-loop-next l = l.left
