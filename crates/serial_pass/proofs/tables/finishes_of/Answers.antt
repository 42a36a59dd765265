use Rattle.std.proofs.Common.{arith}
use Rattle.serial_pass.proofs.StateLemmas.{length-measures}
use Rattle.serial_pass.proofs.tables.finishes_of.Goals as goal

pub lft-requires : goal.lft-requires
lft-requires c = omega (arith, length-measures c.args.project.now c.args.measures.now c.requires.measured)
