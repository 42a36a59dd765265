use Rattle.psplib_mm.specs.Text.{is_line_feed}
use Rattle.psplib_mm.proofs.Finds.{position_is}
use Rattle.session_lines.proofs.bytes.feed_place.Goals as goal

pub returns-clause-place : goal.returns-clause-place
returns-clause-place c = position_is is_line_feed c.args.bytes.now c.memchr.result c.memchr.ensures
