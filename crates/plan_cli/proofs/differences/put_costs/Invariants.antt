use Rattle.std.proofs.Common.{◌≡◌, ◌++◌, string_bytes}
use Rattle.plan_cli.specs.Table.{concat_below}
use Rattle.plan_cli.specs.Moves.{cost_line}
use Rattle.plan_cli.proofs.differences.put_costs.Given as goal

abbrev pub invariant-loop-resource : goal.invariant-loop-resource
invariant-loop-resource l = string_bytes l.text ≡ string_bytes l.initial.text ++ concat_below (cost_line l.before.project.now l.before.schedule.now l.after.schedule.now) l.resource
