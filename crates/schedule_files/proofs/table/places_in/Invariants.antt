use Rattle.std.proofs.Common.{◌≡◌, ◌++◌, map, drop, option_map}
use Rattle.csv.specs.Records.{fields_of}
use Rattle.schedule_files.specs.ScheduleTable.{places_in}
use Rattle.schedule_files.proofs.table.places_in.Given as goal

-- the places so far, and then those of the rest
abbrev pub invariant-loop-row : goal.invariant-loop-row
invariant-loop-row l =
    places_in l.columns (map (λ row. fields_of row.now) l.rows)
    ≡ option_map (λ more. l.places.items ++ more) (places_in l.columns (map (λ row. fields_of row.now) (drop l.row-index l.rows)))
