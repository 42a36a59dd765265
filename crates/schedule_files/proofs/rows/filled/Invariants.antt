use Rattle.std.proofs.Common.{◌≡◌, ◌++◌, map, drop}
use Rattle.std.specs.List.{filter}
use Rattle.schedule_files.specs.ScheduleRows.{is_word}
use Rattle.schedule_files.proofs.rows.filled.Given as goal

-- those so far, and then those of the rest
abbrev pub invariant-loop-part : goal.invariant-loop-part
invariant-loop-part l =
    filter is_word (map (λ it. it.now) l.parts)
    ≡ map (λ it. it.now) l.words.items ++ filter is_word (map (λ it. it.now) (drop l.part-index l.parts))
