use Rattle.std.proofs.Common.{◌≡◌, ◌+◌, ℕ, List, length}
use Rattle.session_lines.specs.Taken.{Reads}
use Rattle.session_lines.proofs.ScanLemmas.{Scans}
use Rattle.session_lines.proofs.bytes.gather_line.Given as goal

-- the bytes taken so far have no line feed, are in the line, and were paid, and no read has failed
abbrev pub invariant-loop-fault : goal.invariant-loop-fault
invariant-loop-fault g l = (raw : List ℕ)
    × Scans raw (g.R.Read.remaining l.initial.reader) (g.R.Read.remaining l.reader)
    × Reads l.line.kept.items l.line.is_blank l.line.returns raw
    × (length raw + l.left ≡ l.initial.left)
    × (l.watch ≡ l.initial.watch)

abbrev pub decreases-loop-fault : goal.decreases-loop-fault
decreases-loop-fault g l = l.left
