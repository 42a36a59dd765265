use Rattle.std.specs.Prelude.{is_none}
use Rattle.std.proofs.Common.{◌≡◌, ℕ, List, ◌++◌, string_bytes}
use Rattle.plan_cli.specs.Table.{AreLines}
use Rattle.plan_cli.proofs.schedule_table.put_lines.Given as goal

abbrev pub invariant-loop-activity : goal.invariant-loop-activity
invariant-loop-activity l = (lines : List ℕ) × AreLines l.layout l.fitting.project.now l.fitting.schedule.now (is_none l.extra) l.activity lines × (string_bytes l.text ≡ string_bytes l.initial.text ++ lines)
