use Rattle.std.proofs.Common.{◌≡◌, ◌++◌, map, drop}
use Rattle.std.specs.List.{filter}
use Rattle.schedule_files.specs.ScheduleRows.{has_digit}
use Rattle.schedule_files.proofs.rows.numbered.Given as goal

-- those so far, and then those of the rest
abbrev pub invariant-loop-line : goal.invariant-loop-line
invariant-loop-line l =
    filter has_digit (map (λ it. it.now) l.lines)
    ≡ map (λ it. it.now) l.rows.items ++ filter has_digit (map (λ it. it.now) (drop l.line-index l.lines))
