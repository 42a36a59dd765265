use Rattle.std.specs.Prelude.{is_none}
use Rattle.std.proofs.Common.{◌++◌, string_bytes, ap, ◌∙◌, append_assoc}
use Rattle.plan_cli.proofs.TableLemmas.{lines_more}
use Rattle.plan_cli.proofs.schedule_table.put_lines.Goals as goal

pub loop-activity-preserved : goal.loop-activity-preserved
loop-activity-preserved c =
    let before = c.loop-activity.invariant.0 in
    let line = c.in_ok-put_line.ensures.0 in (
      before ++ line,
      lines_more c.args.layout c.args.fitting.now.project.now c.args.fitting.now.schedule.now (is_none c.args.extra) c.loop-activity.activity before line c.more_of.result.now c.more_of.ensures c.loop-activity.invariant.1
          c.in_ok-put_line.ensures.1,
      c.in_ok-put_line.ensures.2 ∙ ap (λ l. l ++ line) c.loop-activity.invariant.2 ∙ append_assoc (string_bytes c.args.text.now) before line,
    )
