use Rattle.std.proofs.Common.{◌≡◌, ◌≤◌, ◌*◌, List, drop, fold, option_map}
use Rattle.mrcpsp.specs.Schedule.{makespan}
use Rattle.solve_cli.specs.Portfolio.{joined, AreFound, IsFoundByEach}
use Rattle.solve_cli.specs.declared.search_result.SearchResult.{SearchResult}
use Rattle.solve_cli.proofs.portfolio.solve_each.Given as goal

-- whatever later searches find, all have found it together with what was found
abbrev pub invariant-loop-kind : goal.invariant-loop-kind
invariant-loop-kind g l = record {
  few : l.found.nodes ≤ l.kind-index * 1000000000000;
  made : l.found.makespan ≡ option_map (makespan l.project) l.found.best;
  leads : (rest : List SearchResult) → AreFound l.project (drop l.kind-index l.kinds) l.most rest → IsFoundByEach l.project l.kinds l.most (fold (joined l.project) l.found rest);
}
