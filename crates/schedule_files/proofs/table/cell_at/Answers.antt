use Rattle.csv.specs.Records.{fields_of}
use Rattle.schedule_files.proofs.CellLemmas.{cell_some, cell_none}
use Rattle.schedule_files.proofs.table.cell_at.Goals as goal

pub returns-in-Some : goal.returns-in-Some
returns-in-Some c = cell_some (fields_of c.args.row.now) c.args.place c.in-Some.cell.now c.in-Some.ensures.value

pub returns-in-None : goal.returns-in-None
returns-in-None c = cell_none (fields_of c.args.row.now) c.args.place c.in-None.ensures.value
