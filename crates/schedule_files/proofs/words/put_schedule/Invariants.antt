use Rattle.std.proofs.Common.{◌≡◌, ◌++◌, take, string_bytes}
use Rattle.schedule_files.specs.ScheduleText.{places_text}
use Rattle.schedule_files.proofs.words.put_schedule.Given as goal

-- the words of activities before this one were added
abbrev pub invariant-loop-place : goal.invariant-loop-place
invariant-loop-place l = string_bytes l.text ≡ string_bytes l.initial.text ++ places_text 1 (take l.place l.modes) (take l.place l.starts)
