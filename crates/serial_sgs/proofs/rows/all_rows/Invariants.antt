use Rattle.serial_sgs.specs.Rows.{HasRows}
use Rattle.serial_sgs.proofs.rows.all_rows.Given as goal

abbrev pub invariant-loop-activity : goal.invariant-loop-activity
invariant-loop-activity l = HasRows l.project l.activity l.table.items
