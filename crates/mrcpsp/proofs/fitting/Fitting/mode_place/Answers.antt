use Rattle.std.proofs.Common.{arith}
use Rattle.mrcpsp.specs.Schedule.{mode_of}
use Rattle.mrcpsp.proofs.fitting.Fitting.mode_place.Goals as goal

pub returns-clause-exists : goal.returns-clause-exists
unfolding mode_of
returns-clause-exists c = let has = c.args.self.now.modes c.args.activity c.requires in omega (arith, has.1, has.0, c.mode.ensures)
