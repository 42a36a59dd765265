-- A search of one pass by a priority rule (Kolisch 1996).
use Rattle.std.specs.Prelude.{◌≡◌, ℕ, ◌<◌, ◌≤◌, [], IsSomeAnd}
use Rattle.mrcpsp.specs.declared.limits.TheConstants.{MOST_ACTIVITIES}
use Rattle.mrcpsp.specs.Project.{size}
use Rattle.measures.specs.Measures.{measures_of}
use Rattle.strategy.specs.Pass.{placed_after}
use Rattle.strategy.specs.Outcome.{best_after}
use Rattle.strategy.specs.declared.plan.Plan.{Plan}
use Rattle.serial_pass.specs.Pass.{HasRoom}
use Rattle.rule_search.specs.Rule.{IsRule}
use Rattle.rule_search.specs.declared.search.RulePass.{RulePass}
-- a search that has run no node, with its lease
pub use Rattle.paid_search.specs.Paid.{fresh}

-- the pass is after the first k nodes of the plan's one pass. There is memory for its schedule
-- until it is whole, and the best schedule is the one after k nodes
pub record StandsAt (r : RulePass) (plan : Plan) (k : ℕ) : Type 0 where
  pub rule : IsRule plan.kind
  pub kind : r.kind ≡ plan.kind
  pub count : r.nodes ≡ k
  pub all : r.size ≡ size plan.project
  pub few : r.size ≤ MOST_ACTIVITIES
  pub within : k ≤ size plan.project
  pub measured : r.measures ≡ measures_of plan.project
  pub project : r.pass.project ≡ plan.project
  pub placed : r.pass.placed ≡ placed_after plan.project plan.kind k 0 []
  pub reserved : k < size plan.project → IsSomeAnd r.room (HasRoom (size plan.project))
  pub found : r.best ≡ best_after plan k
