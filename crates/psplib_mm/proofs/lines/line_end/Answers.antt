use Rattle.psplib_mm.specs.Text.{is_line_feed}
use Rattle.psplib_mm.proofs.Finds.{position_is}
use Rattle.psplib_mm.proofs.lines.line_end.Goals as goal

pub returns : goal.returns
returns c = position_is is_line_feed c.args.bytes.now c.memchr.result c.memchr.ensures
