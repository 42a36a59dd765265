use Rattle.schedule_prices.proofs.ChoiceLemmas.{step-is-sound}
use Rattle.schedule_prices.proofs.laws.each_step_is_sound.Goals as goal

pub returns : goal.returns
returns c = step-is-sound
