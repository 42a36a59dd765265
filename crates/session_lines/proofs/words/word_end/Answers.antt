use Rattle.std.proofs.Common.{◌∙◌}
use Rattle.psplib_mm.specs.Text.{is_blank}
use Rattle.psplib_mm.proofs.Cuts.{end_or}
use Rattle.session_lines.proofs.words.word_end.Goals as goal

pub returns-clause-place : goal.returns-clause-place
returns-clause-place c = c.unwrap_or.ensures ∙ rw c.blank_place.ensures (end_or is_blank c.args.bytes.now)
