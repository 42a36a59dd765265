use Rattle.std.proofs.Common.{◌≡◌, ◌++◌, string_bytes}
use Rattle.mrcpsp.specs.Project.{request}
use Rattle.plan_cli.specs.Layout.{cell}
use Rattle.plan_cli.specs.Table.{concat_below}
use Rattle.plan_cli.proofs.schedule_table.put_requests.Given as goal

abbrev pub invariant-loop-resource : goal.invariant-loop-resource
invariant-loop-resource l = string_bytes l.text ≡ string_bytes l.initial.text ++ concat_below (λ r. cell l.layout (request l.project l.activity l.mode r)) l.resource
