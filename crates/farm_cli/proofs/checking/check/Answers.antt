use Rattle.std.proofs.Common.{◌≡◌, Ok, ap, ◌∙◌, sym}
use Rattle.psplib_mm.specs.Reading.{reading}
use Rattle.file_commands.specs.declared.inputs.TheConstants.{MOST_TEXT}
use Rattle.farm_cli.proofs.CheckLemmas.{summed}
use Rattle.farm_cli.proofs.checking.check.Goals as goal

pub returns-in-Ok-write_text : goal.returns-in-Ok-write_text
returns-in-Ok-write_text g c =
    let is : reading c.in-Ok.text.items ≡ Ok c.in-Ok-read.project = ap reading (sym c.deref.ensures.value) ∙ c.in-Ok-read.ensures.exact in (
      ((c.in-Ok.ensures.noted ∙ ap (λ v. v.file) c.watches.view_is, ap (λ v. v.text) c.watches.view_is, ap (λ v. v.other) c.watches.view_is), c.in-Ok-write_text.ensures.noted ∙ ap (λ v. v.output) c.watches.view_is),
      summed MOST_TEXT (g.S.Read.remaining c.args.reader) c.in-Ok.text.items c.in-Ok-read.project c.summarize-summary.result _ _
          c.in-Ok.ensures.front is c.summarize-summary.ensures c.in-Ok-write_text.ensures.bytes,
    )
