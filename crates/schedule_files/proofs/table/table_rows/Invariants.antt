use Rattle.std.proofs.Common.{◌≡◌, ◌<◌, ℕ, List, Some, map}
use Rattle.csv.specs.Reading.{Reached, Ready, source_of, strip_bom}
use Rattle.csv.specs.Records.{fields_of}
use Rattle.csv.specs.declared.parser.State.TheVariants as st
use Rattle.csv.specs.declared.reader.Trim.TheVariants as trim
use Rattle.schedule_files.specs.ScheduleTable.{config_of, mark_of}
use Rattle.schedule_files.proofs.table.table_rows.Given as goal

-- the rows so far take the reader from the text's beginning to what it has left
abbrev pub invariant-loop-row : goal.invariant-loop-row
invariant-loop-row l = (l.row-iterator.rdr.trim ≡ trim.None) × Ready l.row-iterator.rdr × (0 < l.row-iterator.left) × (l.row-iterator.rdr.config ≡ config_of (mark_of l.fn.text))
    × (y : List ℕ) × (source_of (λ s. Some s.now) l.row-iterator.rdr ≡ Some y)
    × Reached (config_of (mark_of l.fn.text)) st.StartRecord (strip_bom l.fn.text) (map fields_of l.rows.items) l.row-iterator.rdr.state y
