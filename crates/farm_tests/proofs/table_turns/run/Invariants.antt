use Rattle.std.proofs.Common.{◌≡◌, false}
use Rattle.farm_tests.proofs.table_turns.run.Given as goal

abbrev pub invariant-loop : goal.invariant-loop
invariant-loop g l = (g.S.Strategy.meaning l.search).taken ≡ false
