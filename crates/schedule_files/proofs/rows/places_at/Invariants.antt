use Rattle.std.proofs.Common.{◌≡◌, ◌++◌, map, drop, option_map}
use Rattle.schedule_files.specs.ScheduleRows.{places_at}
use Rattle.schedule_files.proofs.rows.places_at.Given as goal

-- the places so far, and then those of the rest
abbrev pub invariant-loop-text : goal.invariant-loop-text
invariant-loop-text l =
    places_at l.mark (map (λ text. text.now) l.texts)
    ≡ option_map (λ more. l.places.items ++ more) (places_at l.mark (map (λ text. text.now) (drop l.text-index l.texts)))
