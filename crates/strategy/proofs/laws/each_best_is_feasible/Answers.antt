use Rattle.strategy.proofs.OutcomeLemmas.{each_best, each_shaped}
use Rattle.strategy.proofs.laws.each_best_is_feasible.Goals as goal

pub returns-clause-feasible : goal.returns-clause-feasible
returns-clause-feasible c = each_best

pub returns-clause-shape : goal.returns-clause-shape
returns-clause-shape c = each_shaped
