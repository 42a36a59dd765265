use Rattle.schedule_prices.proofs.ChoiceLemmas.{no-choice}
use Rattle.schedule_prices.proofs.laws.no_choice_is_left.Goals as goal

pub returns : goal.returns
returns c = no-choice
