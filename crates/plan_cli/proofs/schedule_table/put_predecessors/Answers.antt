use Rattle.std.proofs.Common.{◌≡◌, ◌+◌, ◌++◌, string_bytes, sym, ap, ◌∙◌, append_assoc}
use Rattle.plan_cli.specs.Table.{joined, predecessors, next_number}
use Rattle.plan_cli.proofs.TableLemmas.{next_predecessor, other_predecessor, joined_more, not_empty}
use Rattle.plan_cli.proofs.schedule_table.put_predecessors.Goals.{then-precedes+in_ok-put_number, else-precedes}
use Rattle.plan_cli.proofs.schedule_table.put_predecessors.Goals as goal

pub loop-before-preserved : goal.loop-before-preserved
loop-before-preserved c =
    let p = c.args.project.now in
    let j = c.args.activity in
    let n = c.loop-before.before in
    let old = string_bytes c.args.text.now in
    let xs = predecessors p j n in
    elim c.if-precedes.branch [
      | then-precedes+in_ok-put_number w ↦
          let text : string_bytes c.if-precedes.text ≡ string_bytes c.loop-before.text ++ next_number c.loop-before.is_first (n + 1) = ap string_bytes w.text-is ∙ w.in_ok-put_number.ensures in
          rw (next_predecessor p j n (sym w.if-precedes.ensures)) (
            text ∙ rw (c.loop-before.invariant.0, c.loop-before.invariant.1) (append_assoc old (joined xs) _ ∙ ap (λ l. old ++ l) (sym (joined_more xs (n + 1)))),
            w.is_first-is ∙ sym (not_empty xs (n + 1)),
          )
      | else-precedes w ↦
          rw (other_predecessor p j n (sym w.if-precedes.ensures)) (ap string_bytes w.text-is ∙ c.loop-before.invariant.0, w.is_first-is ∙ c.loop-before.invariant.1)
    ]
