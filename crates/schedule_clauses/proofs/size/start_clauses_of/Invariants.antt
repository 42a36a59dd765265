use Rattle.std.proofs.Common.{◌≡◌, ◌≤◌, ◌+◌, ◌*◌}
use Rattle.mrcpsp.specs.Numbers.{sum_below}
use Rattle.mrcpsp.specs.Project.{mode_count}
use Rattle.schedule_clauses.specs.Size.{starts_of, modes_before}
use Rattle.schedule_clauses.proofs.size.start_clauses_of.Given as goal

abbrev pub invariant-loop-activity : goal.invariant-loop-activity
invariant-loop-activity l = record {
  so_far : l.clauses ≡ sum_below (λ j. starts_of l.project l.bound j * (mode_count l.project j + modes_before l.project j)) l.activity;
  few : l.clauses ≤ 35184372088832 * l.activity;
}
