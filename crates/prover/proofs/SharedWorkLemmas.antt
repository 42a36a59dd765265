-- A refuted bound raises the lower bound.
use Rattle.std.proofs.Common.{ℕ, ◌+◌, arith}
use Rattle.mrcpsp.specs.Project.{ProjectData}
use Rattle.price_search.specs.LowerBound.{TakesAtLeast}
use Rattle.schedule_prices.specs.Choices.{EachExceeds}

pub at-least : (p : ProjectData) (bound : ℕ) → EachExceeds p bound → TakesAtLeast p (bound + 1)
at-least p bound exceeds s feasible = let longer = exceeds s feasible in omega arith

pub ruleset bound_rules = (at-least)
