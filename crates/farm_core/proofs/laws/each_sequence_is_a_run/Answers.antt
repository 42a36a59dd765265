use Rattle.farm_core.proofs.MadeLemmas as made
use Rattle.farm_core.proofs.laws.each_sequence_is_a_run.Goals as goal

pub returns : goal.returns
returns c = made.each_sequence_is_a_run
