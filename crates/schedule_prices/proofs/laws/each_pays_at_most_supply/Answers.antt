use Rattle.schedule_prices.proofs.RowLemmas.{pays-at-most}
use Rattle.schedule_prices.proofs.laws.each_pays_at_most_supply.Goals as goal

pub returns : goal.returns
returns c = pays-at-most
