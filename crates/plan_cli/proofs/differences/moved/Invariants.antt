use Rattle.std.proofs.Common.{◌≡◌, ◌≤◌}
use Rattle.mrcpsp.specs.Numbers.{count_below}
use Rattle.plan_cli.specs.Moves.{is_moved}
use Rattle.plan_cli.proofs.differences.moved.Given as goal

abbrev pub invariant-loop-activity : goal.invariant-loop-activity
invariant-loop-activity l = (l.count ≡ count_below (is_moved l.before.schedule.now l.after.schedule.now) l.activity) × (l.count ≤ l.activity)
