use Rattle.std.proofs.Common.{◌-◌}
use Rattle.serial_pass.specs.Points.{time_at}
use Rattle.serial_pass.proofs.PointLemmas.{IsTaking}
use Rattle.serial_pass.proofs.points.take_in.Given as goal

abbrev pub invariant-loop-points : goal.invariant-loop-points
invariant-loop-points l = IsTaking l.fn.points l.points l.start l.finish l.request l.before l.at

abbrev pub decreases-loop-points : goal.decreases-loop-points
decreases-loop-points l = 4294967295 - time_at l.fn.points l.at
