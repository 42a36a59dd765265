use Rattle.std.proofs.Common.{◌≡◌, Some}
use Rattle.session_lines.specs.Known.{Goes}
use Rattle.session_lines.specs.Script.{opened_text}
use Rattle.session_lines.proofs.ReadLemmas.{InText}
use Rattle.session_lines.proofs.reading.read_text.Given as goal

-- the lines so far are in the text, and no read has failed
abbrev pub invariant-loop-found : goal.invariant-loop-found
invariant-loop-found g l = (l.watch ≡ l.initial.watch) × Goes (g.R.Read.remaining l.initial.reader) (g.R.Read.remaining l.reader) (InText (Some (opened_text l.fn.head)) l.text l.initial.left l.left)

abbrev pub decreases-loop-found : goal.decreases-loop-found
decreases-loop-found g l = l.left
