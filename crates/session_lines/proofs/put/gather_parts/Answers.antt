use Rattle.std.proofs.Common.{◌∙◌}
use Rattle.session_lines.proofs.PartLemmas.{part_at, parts_to}
use Rattle.session_lines.proofs.put.gather_parts.Goals as goal

pub loop-part-preserved : goal.loop-part-preserved
loop-part-preserved g c = (
  (rw c.in_default.is at c.gather_part.ensures.noted) ∙ c.loop-part.invariant.0,
  parts_to _ (g.W.Write.contents c.args.writer.now) (g.W.Write.contents c.loop-part.writer) (g.W.Write.contents c.gather_part.new.writer) _ _ _ c.args.parts.now c.loop-part.part-index _ c.loop-part-test.true c.loop-part.invariant.1 (rw c.in_default.is at c.gather_part.ensures.gathers),
)

pub returns-in-Err-clause-gathers : goal.returns-in-Err-clause-gathers
returns-in-Err-clause-gathers g c =
    part_at c.in-Err.fault (g.W.Write.contents c.args.writer.now) (g.W.Write.contents c.loop-part.writer) (g.W.Write.contents c.gather_part.new.writer) _ _ _ c.args.parts.now c.loop-part.part-index _ c.loop-part-test.true c.loop-part.invariant.1 c.in-Err.ensures.gathers
