use Rattle.psplib_mm.specs.Text.{is_text_end}
use Rattle.psplib_mm.proofs.Finds.{position_is}
use Rattle.psplib_mm.proofs.lines.text_end.Goals as goal

pub returns : goal.returns
returns c = position_is is_text_end c.args.text.now c.memchr.result c.memchr.ensures
