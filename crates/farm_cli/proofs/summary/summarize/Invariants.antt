use Rattle.std.proofs.Common.{◌≡◌, ◌≤◌, ◌*◌}
use Rattle.mrcpsp.specs.Numbers.{sum_below}
use Rattle.mrcpsp.specs.Project.{mode_count}
use Rattle.farm_cli.proofs.summary.summarize.Given as goal

abbrev pub invariant-loop-activity : goal.invariant-loop-activity
invariant-loop-activity l = (l.modes ≡ sum_below (mode_count l.project) l.activity) × (l.modes ≤ 10 * l.activity)
