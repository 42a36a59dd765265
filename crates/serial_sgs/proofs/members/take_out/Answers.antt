use Rattle.std.proofs.Common.{arith}
use Rattle.serial_sgs.proofs.MemberLemmas.{take_own, take_others}
use Rattle.serial_sgs.proofs.members.take_out.Goals as goal

pub returns-clause-own : goal.returns-clause-own
returns-clause-own c = take_own c.args.words.now c.args.activity (omega arith)

pub returns-clause-others : goal.returns-clause-others
returns-clause-others c j other = take_others c.args.words.now c.args.activity j (omega arith) other
