use Rattle.std.proofs.Common.{arith}
use Rattle.mrcpsp.specs.Schedule.{start_of}
use Rattle.mrcpsp.proofs.fitting.Fitting.start.Goals as goal

pub returns-clause-early : goal.returns-clause-early
unfolding start_of
returns-clause-early c = omega (arith, c.args.self.now.shape.early c.args.activity 0 (omega arith), c.start.ensures)
