use Rattle.std.proofs.Common.{◌≡◌, ◌≤◌, ◌*◌, cond}
use Rattle.mrcpsp.specs.Numbers.{sum_below}
use Rattle.mrcpsp.specs.Project.{precedes, mode_count}
use Rattle.schedule_clauses.proofs.size.modes_before_of.Given as goal

abbrev pub invariant-loop-before : goal.invariant-loop-before
invariant-loop-before l = record {
  so_far : l.modes ≡ sum_below (λ i. cond (precedes l.project i l.activity) (mode_count l.project i) 0) l.before;
  few : l.modes ≤ 10 * l.before;
}
