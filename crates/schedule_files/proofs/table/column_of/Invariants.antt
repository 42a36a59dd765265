use Rattle.std.proofs.Common.{◌≡◌, ◌+◌, drop}
use Rattle.std.specs.List.{position_or_len}
use Rattle.csv.specs.Records.{fields_of}
use Rattle.schedule_files.specs.ScheduleTable.{is_named}
use Rattle.schedule_files.proofs.table.column_of.Given as goal

-- no cell so far has the name
abbrev pub invariant-loop-place : goal.invariant-loop-place
invariant-loop-place l = position_or_len (is_named l.name) (fields_of l.row) ≡ l.place + position_or_len (is_named l.name) (drop l.place (fields_of l.row))
