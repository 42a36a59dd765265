use Rattle.std.proofs.Common.{◌≡◌, None}
use Rattle.session_lines.specs.Known.{Goes}
use Rattle.session_lines.proofs.ReadLemmas.{GoesOn}
use Rattle.session_lines.proofs.reading.read_within.Given as goal

-- all lines so far were blank, and no read has failed
abbrev pub invariant-loop-found : goal.invariant-loop-found
invariant-loop-found g l = (l.watch ≡ l.initial.watch) × Goes (g.R.Read.remaining l.initial.reader) (g.R.Read.remaining l.reader) (GoesOn None l.initial.left l.left)

abbrev pub decreases-loop-found : goal.decreases-loop-found
decreases-loop-found g l = l.left
