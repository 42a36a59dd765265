use Rattle.std.proofs.Common.{◌≡◌, true}
use Rattle.mrcpsp.specs.Numbers.{all_below}
use Rattle.solve_cli.specs.Improved.{can_run}
use Rattle.solve_cli.proofs.executable.can_all_run.Given as goal

-- each activity before this one has an executable mode
abbrev pub invariant-loop-activity : goal.invariant-loop-activity
invariant-loop-activity l = all_below (can_run l.project) l.activity ≡ true
