use Rattle.std.proofs.Common.{◌≡◌, take}
use Rattle.session_lines.specs.Part.{GathersAll}
use Rattle.session_lines.specs.ReplyText.{places_text}
use Rattle.session_lines.proofs.writer.gather_schedule.Given as goal

-- the places of the activities before this one were gathered, and no write has failed
abbrev pub invariant-loop-place : goal.invariant-loop-place
invariant-loop-place g l = (l.watch ≡ l.initial.watch) × GathersAll (g.W.Write.contents l.initial.writer) (g.W.Write.contents l.writer) l.initial.gathered.items l.gathered.items (places_text 1 (take l.place l.modes) (take l.place l.starts))
