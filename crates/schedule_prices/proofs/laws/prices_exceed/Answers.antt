use Rattle.schedule_prices.proofs.ChoiceLemmas.{prices-exceed}
use Rattle.schedule_prices.proofs.laws.prices_exceed.Goals as goal

pub returns : goal.returns
returns c = prices-exceed
