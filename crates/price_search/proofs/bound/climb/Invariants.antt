use Rattle.std.proofs.Common.{◌≤◌}
use Rattle.price_search.specs.LowerBound.{TakesAtLeast}
use Rattle.price_search.proofs.bound.climb.Given as goal

abbrev pub invariant-loop : goal.invariant-loop
invariant-loop l = TakesAtLeast l.project l.periods × (l.known ≤ l.periods)
