use Rattle.farm_core.proofs.RunLemmas as runs
use Rattle.farm_core.proofs.laws.each_answer_is_true.Goals as goal

pub returns : goal.returns
returns c = runs.each_answer_is_true
