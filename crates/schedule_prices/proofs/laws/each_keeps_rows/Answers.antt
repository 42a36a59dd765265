use Rattle.schedule_prices.proofs.RowLemmas.{keeps-row}
use Rattle.schedule_prices.proofs.laws.each_keeps_rows.Goals as goal

pub returns : goal.returns
returns c = keeps-row
