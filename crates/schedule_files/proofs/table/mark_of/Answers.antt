use Rattle.std.proofs.Common.{sym}
use Rattle.schedule_files.proofs.CellLemmas.{mark_some, mark_none}
use Rattle.schedule_files.proofs.table.mark_of.Goals as goal

pub returns-in-Some : goal.returns-in-Some
returns-in-Some c = mark_some c.args.text.now c.in-Some.place (sym c.in-Some.ensures)

pub returns-in-None : goal.returns-in-None
returns-in-None c = mark_none c.args.text.now (sym c.in-None.ensures)
