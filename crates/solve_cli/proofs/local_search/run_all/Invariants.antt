-- The project and the most schedules stay, and at most 65,536 are generated next.
use Rattle.std.proofs.Common.{◌≡◌, ◌-◌, ◌≤◌}
use Rattle.solve_cli.proofs.local_search.run_all.Given as goal

abbrev pub invariant-loop-observer : goal.invariant-loop-observer
invariant-loop-observer g l = record {
  project : l.search.project ≡ l.fn.search.project;
  most : l.search.most ≡ l.fn.search.most;
  few : l.chunk ≤ 65536;
}

-- schedules are left to be generated
abbrev pub decreases-loop-observer : goal.decreases-loop-observer
decreases-loop-observer g l = l.search.most - l.search.spent
