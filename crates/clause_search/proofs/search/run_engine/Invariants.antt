use Rattle.std.proofs.Common.{◌+◌, ◌≤◌}
use Rattle.clause_search.proofs.search.run_engine.Given as goal

abbrev pub invariant-loop : goal.invariant-loop
invariant-loop g l = l.conflicts ≤ l.initial.conflicts + l.budget
