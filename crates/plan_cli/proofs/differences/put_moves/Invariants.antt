use Rattle.std.proofs.Common.{◌≡◌, ◌++◌, string_bytes}
use Rattle.plan_cli.specs.Table.{concat_below}
use Rattle.plan_cli.specs.Moves.{move_line}
use Rattle.plan_cli.proofs.differences.put_moves.Given as goal

abbrev pub invariant-loop-activity : goal.invariant-loop-activity
invariant-loop-activity l = string_bytes l.text ≡ string_bytes l.initial.text ++ concat_below (move_line l.before.schedule.now l.after.schedule.now) l.activity
