use Rattle.std.proofs.Common.{subst}
use Rattle.session_lines.specs.Taken.{Adds}
use Rattle.session_lines.proofs.ReadLemmas.{Adds-front}
use Rattle.session_lines.proofs.ScanLemmas.{Goes-line}
use Rattle.session_lines.proofs.reading.gather_text_line.Goals as goal

pub returns-in-Ok-true-clause-taken : goal.returns-in-Ok-true-clause-taken
returns-in-Ok-true-clause-taken g c =
    let adds : Adds c.args.text.now c.add.new.self c.gather_line.new.line.kept.items = rw (← c.as_slice.ensures.value) (record { head = c.add.ensures.head; left = c.add.ensures.left; long = c.add.ensures.long; refused = c.add.ensures.refused; bytes = c.add.ensures.bytes }) in
    Goes-line _ _ _ _ (g.R.Read.remaining c.args.reader.now) (g.R.Read.remaining c.gather_line.new.reader)
    (λ line front. Adds-front _ _ line (subst (Adds c.args.text.now c.add.new.self) front.front adds))
    (rw c.in-Ok-true.field-0-test at c.in-Ok-true.ensures.taken)
