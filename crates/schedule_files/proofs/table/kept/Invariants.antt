use Rattle.std.proofs.Common.{◌≡◌, ◌++◌, map, drop}
use Rattle.std.specs.List.{filter}
use Rattle.csv.specs.Records.{fields_of}
use Rattle.schedule_files.specs.ScheduleTable.{is_row}
use Rattle.schedule_files.proofs.table.kept.Given as goal

-- those so far, and then those of the rest
abbrev pub invariant-loop-row : goal.invariant-loop-row
invariant-loop-row l =
    filter (is_row l.heading) (map fields_of l.rows)
    ≡ map (λ row. fields_of row.now) l.found.items ++ filter (is_row l.heading) (map fields_of (drop l.row-index l.rows))
