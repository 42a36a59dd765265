use Rattle.std.proofs.Common.{arith, refl}
use Rattle.serial_pass.proofs.PointLemmas.{take_next}
use Rattle.serial_pass.proofs.points.take_in.Goals as goal

pub loop-points-preserved : goal.loop-points-preserved
loop-points-preserved c =
    take_next c.args.points.now c.loop-points.points c.args.start c.args.finish c.args.request.now c.subtract.new.amounts c.loop-points.before c.loop-points.at _ _ refl c.requires.linked c.requires.finish (omega (arith, c.loop-points-test.true, c.loop-points.invariant.taken.times c.loop-points.at)) c.loop-points.invariant refl refl c.subtract.ensures
