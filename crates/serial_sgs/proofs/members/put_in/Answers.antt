use Rattle.std.proofs.Common.{arith}
use Rattle.serial_sgs.proofs.MemberLemmas.{put_own, put_others}
use Rattle.serial_sgs.proofs.members.put_in.Goals as goal

pub returns-clause-own : goal.returns-clause-own
returns-clause-own c = put_own c.args.words.now c.args.activity (omega arith)

pub returns-clause-others : goal.returns-clause-others
returns-clause-others c j other = put_others c.args.words.now c.args.activity j (omega arith) other
