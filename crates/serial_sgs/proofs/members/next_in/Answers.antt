use Rattle.std.proofs.Common.{arith, refl}
use Rattle.serial_sgs.proofs.MemberLemmas.{next_found, later_word}
use Rattle.serial_sgs.proofs.members.next_in.Goals as goal

pub returns-then-rest-ne0 : goal.returns-then-rest-ne0
returns-then-rest-ne0 c = next_found c.args.words.now c.args.from _ c.requires.from (omega arith) refl (omega arith) (omega arith)

pub returns : goal.returns
returns c = later_word c.args.words.now c.args.from c.args.end c.first_in.result (omega arith) c.first_in.ensures
