use Rattle.farm_pool.proofs.MadeLemmas.{each_reply_can_be_made}
use Rattle.farm_pool.proofs.laws.each_reply_can_be_made.Goals as goal

pub returns : goal.returns
returns c = each_reply_can_be_made
