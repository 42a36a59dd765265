use Rattle.std.proofs.Common.{arith}
use Rattle.serial_pass.proofs.SetLemmas.{lowest}
use Rattle.serial_pass.proofs.eligible.split_lowest.Goals as goal

pub returns : goal.returns
returns c = lowest c.args.bits c.requires (omega arith)
