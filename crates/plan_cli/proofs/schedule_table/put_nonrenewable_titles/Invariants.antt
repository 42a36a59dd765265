use Rattle.std.proofs.Common.{◌≡◌, ◌++◌, ◌+◌, string_bytes}
use Rattle.plan_cli.specs.Layout.{title}
use Rattle.plan_cli.specs.Table.{concat_below}
use Rattle.plan_cli.proofs.schedule_table.put_nonrenewable_titles.Given as goal

abbrev pub invariant-loop-resource : goal.invariant-loop-resource
invariant-loop-resource l = string_bytes l.text ≡ string_bytes l.initial.text ++ concat_below (λ r. title l.layout 78 (r + 1)) l.resource
