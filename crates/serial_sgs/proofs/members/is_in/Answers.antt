use Rattle.serial_sgs.proofs.MemberLemmas.{read_bit}
use Rattle.serial_sgs.proofs.members.is_in.Goals as goal

pub returns : goal.returns
returns c = read_bit c.args.words.now c.args.activity
