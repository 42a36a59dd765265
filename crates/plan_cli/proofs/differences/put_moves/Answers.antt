use Rattle.std.proofs.Common.{◌++◌, string_bytes, sym, ap, ◌∙◌, append_assoc}
use Rattle.plan_cli.specs.Table.{concat_below}
use Rattle.plan_cli.specs.Moves.{move_line}
use Rattle.plan_cli.proofs.TableLemmas.{concat_more}
use Rattle.plan_cli.proofs.differences.put_moves.Goals as goal

pub loop-activity-preserved : goal.loop-activity-preserved
loop-activity-preserved c =
    let f = move_line c.args.before.now.schedule.now c.args.after.now.schedule.now in
    let n = c.loop-activity.activity in
    let old = string_bytes c.args.text.now in
    c.in_ok-put_move.ensures ∙ ap (λ l. l ++ f n) c.loop-activity.invariant ∙ append_assoc old (concat_below f n) (f n) ∙ ap (λ l. old ++ l) (sym (concat_more f n))
