use Rattle.std.proofs.Common.{◌≡◌, drop}
use Rattle.std.specs.List.{list_any}
use Rattle.csv.specs.Records.{fields_of}
use Rattle.schedule_files.specs.ScheduleRows.{has_digit}
use Rattle.schedule_files.proofs.table.any_digit.Given as goal

-- no cell so far has a digit
abbrev pub invariant-loop-place : goal.invariant-loop-place
invariant-loop-place l = list_any has_digit (fields_of l.row) ≡ list_any has_digit (drop l.place (fields_of l.row))
