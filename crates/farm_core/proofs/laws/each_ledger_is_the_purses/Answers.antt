use Rattle.farm_core.proofs.SeatLemmas.{ledger_is}
use Rattle.farm_core.proofs.laws.each_ledger_is_the_purses.Goals as goal

pub returns : goal.returns
returns c = λ w t l. ledger_is t w l
