use Rattle.farm_pool.proofs.LawLemmas.{each_reply_is_alone}
use Rattle.farm_pool.proofs.laws.each_reply_is_alone.Goals as goal

pub returns : goal.returns
returns c = each_reply_is_alone
