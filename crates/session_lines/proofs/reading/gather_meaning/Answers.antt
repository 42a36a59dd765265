use Rattle.std.proofs.Common.{◌∙◌}
use Rattle.session_lines.proofs.ReadLemmas.{front_judged}
use Rattle.session_lines.proofs.ScanLemmas.{Goes-line}
use Rattle.session_lines.proofs.reading.gather_meaning.Goals as goal

pub returns-in-Ok-true-clause-taken : goal.returns-in-Ok-true-clause-taken
returns-in-Ok-true-clause-taken g c =
    Goes-line _ _ _ _ (g.R.Read.remaining c.args.reader.now) (g.R.Read.remaining c.gather_line.new.reader)
    (λ line front. c.judge_gathered.ensures ∙ front_judged _ _ line front)
    (rw c.in-Ok-true.field-0-test at c.in-Ok-true.ensures.taken)
