use Rattle.std.proofs.Common.{◌≡◌, ◌++◌, string_bytes}
use Rattle.plan_cli.specs.Table.{joined, predecessors, is_empty}
use Rattle.plan_cli.proofs.schedule_table.put_predecessors.Given as goal

abbrev pub invariant-loop-before : goal.invariant-loop-before
invariant-loop-before l = (string_bytes l.text ≡ string_bytes l.initial.text ++ joined (predecessors l.project l.activity l.before)) × (l.is_first ≡ is_empty (predecessors l.project l.activity l.before))
