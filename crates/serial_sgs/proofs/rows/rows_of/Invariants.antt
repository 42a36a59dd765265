use Rattle.serial_sgs.specs.Rows.{AreRows}
use Rattle.serial_sgs.proofs.rows.rows_of.Given as goal

abbrev pub invariant-loop-mode : goal.invariant-loop-mode
invariant-loop-mode l = AreRows l.project l.activity l.mode l.rows.items
