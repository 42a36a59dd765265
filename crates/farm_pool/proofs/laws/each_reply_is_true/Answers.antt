use Rattle.farm_pool.proofs.TruthLemmas.{each_reply_is_true}
use Rattle.farm_pool.proofs.laws.each_reply_is_true.Goals as goal

pub returns : goal.returns
returns c = each_reply_is_true
