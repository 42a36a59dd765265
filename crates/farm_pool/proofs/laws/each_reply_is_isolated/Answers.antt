use Rattle.farm_pool.proofs.LawLemmas.{each_reply_is_isolated}
use Rattle.farm_pool.proofs.laws.each_reply_is_isolated.Goals as goal

pub returns : goal.returns
returns c = each_reply_is_isolated
