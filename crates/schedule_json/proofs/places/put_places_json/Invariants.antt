use Rattle.std.proofs.Common.{◌≡◌, ◌++◌, take, string_bytes}
use Rattle.schedule_json.specs.ScheduleJson.{places_json}
use Rattle.schedule_json.proofs.places.put_places_json.Given as goal

-- the places of activities before this one were added
abbrev pub invariant-loop-place : goal.invariant-loop-place
invariant-loop-place l = string_bytes l.text ≡ string_bytes l.initial.text ++ places_json 0 (take l.place l.modes) (take l.place l.starts)
