use Rattle.std.proofs.Common.{◌<◌, ◌≤◌}
use Rattle.solve_cli.specs.Found.{IsAt}
use Rattle.solve_cli.proofs.search_result.run_nodes.Given as goal

-- nodes were run, and at most 65,536 are run next
abbrev pub invariant-loop-search : goal.invariant-loop-search
invariant-loop-search g l = record {
  at : IsAt (g.S.Strategy.meaning l.fn.search) (g.S.Strategy.meaning l.search);
  some : 0 < l.chunk;
  few : l.chunk ≤ 65536;
}

abbrev pub decreases-loop-search : goal.decreases-loop-search
decreases-loop-search g l = (g.S.Strategy.meaning l.search).left
