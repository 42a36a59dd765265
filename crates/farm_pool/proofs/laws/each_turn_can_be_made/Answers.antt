use Rattle.farm_pool.proofs.TurnLemmas.{each_turn_can_be_made}
use Rattle.farm_pool.proofs.laws.each_turn_can_be_made.Goals as goal

pub returns : goal.returns
returns c = each_turn_can_be_made
