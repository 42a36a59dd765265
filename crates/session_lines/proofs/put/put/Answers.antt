use Rattle.std.proofs.Common.{◌∙◌, ◌++◌, take}
use Rattle.std.proofs.KnownBytes.{Appends-trans}
use Rattle.session_lines.proofs.PartLemmas.{moves_front}
use Rattle.session_lines.proofs.put.put.Goals as goal

pub loop-rest-preserved : goal.loop-rest-preserved
loop-rest-preserved g c =
    let (done, split, wrote, well) = c.loop-rest.invariant in (
      done ++ take c.in-Ok.count c.loop-rest.rest.now,
      moves_front _ done c.loop-rest.rest.now c.in-Ok.count split,
      Appends-trans (g.W.Write.contents c.args.writer.now) (g.W.Write.contents c.loop-rest.writer) (g.W.Write.contents c.write.new.writer) _ _ wrote c.in-Ok.ensures.bytes,
      c.in-Ok.ensures.noted ∙ well,
    )
