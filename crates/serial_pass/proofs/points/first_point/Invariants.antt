use Rattle.std.proofs.Common.{◌-◌}
use Rattle.serial_pass.specs.Points.{time_at}
use Rattle.serial_pass.proofs.PointLemmas.{IsWalking}
use Rattle.serial_pass.proofs.points.first_point.Given as goal

abbrev pub invariant-loop-at : goal.invariant-loop-at
invariant-loop-at l = IsWalking l.points l.request l.duration l.ready l.start l.at l.finish

abbrev pub decreases-loop-at : goal.decreases-loop-at
decreases-loop-at l = 4294967295 - time_at l.points l.at
