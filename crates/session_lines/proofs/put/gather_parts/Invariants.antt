use Rattle.std.proofs.Common.{◌≡◌, take}
use Rattle.session_lines.specs.Part.{GathersAll, parts_text}
use Rattle.session_lines.proofs.put.gather_parts.Given as goal

-- the parts before this one were gathered, and no write has failed
abbrev pub invariant-loop-part : goal.invariant-loop-part
invariant-loop-part g l = (l.watch ≡ l.initial.watch) × GathersAll (g.W.Write.contents l.initial.writer) (g.W.Write.contents l.writer) l.initial.gathered.items l.gathered.items (parts_text (take l.part-index l.parts))
