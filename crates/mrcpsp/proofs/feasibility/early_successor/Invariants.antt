use Rattle.std.proofs.Common.{ℕ, ◌-◌, ◌<◌, ◌≤◌, get_or}
use Rattle.mrcpsp.specs.Project.{size}
use Rattle.mrcpsp.specs.Schedule.{start_of, finish}
use Rattle.mrcpsp.specs.Breach.{StartsEarly}
use Rattle.mrcpsp.proofs.feasibility.early_successor.Given as goal

abbrev pub invariant-loop-successor : goal.invariant-loop-successor
invariant-loop-successor l = record {
  found : l.first < size l.fitting.project.now → StartsEarly l.fitting.project.now l.fitting.schedule.now l.before l.first;
  least : (k : ℕ) → k < l.successor-index → start_of l.fitting.schedule.now (get_or l.successor-items k 0 - 1) < finish l.fitting.project.now l.fitting.schedule.now l.before → l.first ≤ get_or l.successor-items k 0 - 1;
}
