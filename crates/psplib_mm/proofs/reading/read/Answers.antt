use Rattle.std.proofs.Common.{ap, subst, ◌∙◌}
use Rattle.psplib_mm.specs.Gives.{Gives}
use Rattle.psplib_mm.specs.Scan.{capped_meaning}
use Rattle.psplib_mm.proofs.Few.{reading_capped}
use Rattle.psplib_mm.proofs.reading.read.Goals as goal

pub returns-clause-exact : goal.returns-clause-exact
returns-clause-exact c =
    subst (λ read. Gives (λ p. p) c.project_in.result read) (ap capped_meaning c.of.ensures ∙ reading_capped c.args.text.now c.if-text-gt-MOST_BYTES.false) c.project_in.ensures
