-- What one search finds within `most` nodes.
use Rattle.std.specs.Prelude.{◌≡◌, ℕ, ◌+◌, ◌≤◌, ◌<◌, ◌⊎◌, true, false, option_map}
use Rattle.mrcpsp.specs.Numbers.{first_from}
use Rattle.mrcpsp.specs.Schedule as schedule
use Rattle.strategy.specs.Outcome.{best_after, is_closed, verdict_after}
use Rattle.strategy.specs.Search.{Meaning, shown_closed}
use Rattle.strategy.specs.declared.plan.Plan.{Plan}
use Rattle.solve_cli.specs.declared.search_result.SearchResult.{SearchResult}

-- the result of a plan's search once it is over, or after `most` nodes
pub record IsFound (plan : Plan) (most : ℕ) (f : SearchResult) : Type 0 where
  pub nodes : f.nodes ≡ first_from (is_closed plan) most 0
  pub best : f.best ≡ best_after plan f.nodes
  pub makespan : f.makespan ≡ option_map (schedule.makespan plan.project) f.best
  pub verdict : f.verdict ≡ verdict_after plan f.nodes

-- a search that has run no nodes and holds no quanta
pub record IsFresh (m : Meaning) : Type 0 where
  pub nodes : m.nodes ≡ 0
  pub left : m.left ≡ 0
  pub taken : m.taken ≡ false

-- a search after some of its quanta were used for nodes, none of which it ran once it was over
pub record IsAt (before after : Meaning) : Type 0 where
  pub plan : after.plan ≡ before.plan
  pub taken : after.taken ≡ before.taken
  pub paid : after.nodes + after.left ≡ before.nodes + before.left
  pub going : (n : ℕ) → before.nodes ≤ n → n < after.nodes → is_closed before.plan n ≡ false

-- a search is over, or has no quanta left
abbrev pub IsOver : Meaning → Type 0
IsOver m = (shown_closed m ≡ true) ⊎ (m.left ≡ 0)

-- a search has run no nodes, and holds `most` quanta, or none if it is over
pub record IsBegun (of : Plan) (most : ℕ) (m : Meaning) : Type 0 where
  pub plan : m.plan ≡ of
  pub nodes : m.nodes ≡ 0
  pub taken : m.taken ≡ false
  pub left : ((shown_closed m ≡ true) × (m.left ≡ 0)) ⊎ (m.left ≡ most)

-- the result of a search whose best was not taken
pub record IsShown (m : Meaning) (f : SearchResult) : Type 0 where
  pub nodes : f.nodes ≡ m.nodes
  pub best : f.best ≡ best_after m.plan m.nodes
  pub makespan : f.makespan ≡ option_map (schedule.makespan m.plan.project) (best_after m.plan m.nodes)
  pub verdict : f.verdict ≡ verdict_after m.plan m.nodes
