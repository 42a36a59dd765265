use Rattle.std.proofs.Common.{◌≡◌, ◌+◌, [], ◌∷◌, ◌++◌, not, length, length-append, ap, ◌∙◌, arith}
use Rattle.session_lines.specs.Taken.{IsFront}
use Rattle.session_lines.proofs.LineLemmas.{Reads-feed, Reads-end}
use Rattle.session_lines.proofs.CauseLemmas.{longer_line}
use Rattle.session_lines.proofs.ScanLemmas.{Scans-inside, Scans-last, Scans-end, Goes-map, TakesLine-whole, ends_if, kept_some}
use Rattle.session_lines.proofs.bytes.gather_line.Goals as goal

pub returns-in-Err-clause-cause : goal.returns-in-Err-clause-cause
returns-in-Err-clause-cause g c =
    let (raw, scans, reads, paid, well) = c.loop-fault.invariant in
    longer_line _ c.args.left.now c.loop-fault.left raw (g.R.Read.remaining c.args.reader.now) (g.R.Read.remaining c.loop-fault.reader) paid scans (rw well at c.in-Err.ensures.cause)

pub returns-in-Ok-End-clause-taken : goal.returns-in-Ok-End-clause-taken
returns-in-Ok-End-clause-taken g c =
    let (raw, scans, reads, paid, well) = c.loop-fault.invariant in
    let got = rw c.in-Ok-End.field-0-is at c.in-Ok-End.ensures.taken in
    let all : IsFront c.take_piece.new.line.kept.items c.take_piece.new.line.is_blank raw = rw got.1 (Reads-end _ _ _ raw reads) in
    let spent : length raw + c.take_piece.new.left ≡ c.args.left.now = omega (arith, got.2) in
    ends_if _ (IsFront c.take_piece.new.line.kept.items c.take_piece.new.line.is_blank) raw (g.R.Read.remaining c.args.reader.now) (g.R.Read.remaining c.take_piece.new.reader) _ _ all (ap not c.is_empty.ensures ∙ kept_some raw _ all.front) spent
    (Scans-end raw (g.R.Read.remaining c.args.reader.now) (g.R.Read.remaining c.loop-fault.reader) (g.R.Read.remaining c.take_piece.new.reader) scans got.0)

pub loop-fault-preserved : goal.loop-fault-preserved
loop-fault-preserved g c =
    let (raw, scans, reads, paid, well) = c.loop-fault.invariant in
    let (bytes, took, more, spent, some) = rw c.in-Ok-Inside.field-0-is at c.in-Ok-Inside.ensures.taken in
    let long = length-append raw bytes in (
      raw ++ bytes,
      Scans-inside raw bytes (g.R.Read.remaining c.args.reader.now) (g.R.Read.remaining c.loop-fault.reader) (g.R.Read.remaining c.take_piece.new.reader) more.inside scans took,
      more.reads raw reads,
      omega (arith, long, spent, paid),
      c.in-Ok-Inside.ensures.kept ∙ well,
    )

pub returns-in-Ok-Last-clause-taken : goal.returns-in-Ok-Last-clause-taken
returns-in-Ok-Last-clause-taken g c =
    let (raw, scans, reads, paid, well) = c.loop-fault.invariant in
    let (bytes, took, more, spent) = rw c.in-Ok-Last.field-0-is at c.in-Ok-Last.ensures.taken in
    let line = (raw ++ bytes) ++ 10 ∷ [] in
    let long : length line ≡ length raw + length bytes + 1 = length-append (raw ++ bytes) (10 ∷ []) ∙ ap (λ n. n + 1) (length-append raw bytes) in
    let front : IsFront c.keep.new.self.kept.items c.keep.new.self.is_blank line = rw (c.keep.ensures.kept, c.keep.ensures.blank) (Reads-feed _ _ _ (raw ++ bytes) (more.reads raw reads)) in
    Goes-map (g.R.Read.remaining c.args.reader.now) (g.R.Read.remaining c.take_piece.new.reader) _ _
    (TakesLine-whole (IsFront c.keep.new.self.kept.items c.keep.new.self.is_blank) line _ _ front (omega (arith, long)) (omega (arith, long, spent, paid)))
    (Scans-last raw bytes (g.R.Read.remaining c.args.reader.now) (g.R.Read.remaining c.loop-fault.reader) (g.R.Read.remaining c.take_piece.new.reader) more.inside scans took)
