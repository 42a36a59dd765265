use Rattle.std.proofs.Common.{◌≡◌, ◌++◌, map, drop, option_map}
use Rattle.serde_json.specs.View.{view, items_of}
use Rattle.schedule_files.specs.ScheduleJson.{places_of}
use Rattle.schedule_files.proofs.objects.places_of.Given as goal

-- the places so far, and then those of the rest
abbrev pub invariant-loop-value : goal.invariant-loop-value
invariant-loop-value l =
    places_of (items_of (map view l.values))
    ≡ option_map (λ more. l.places.items ++ more) (places_of (items_of (map view (drop l.value-index l.values))))
