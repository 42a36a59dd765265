use Rattle.strategy.proofs.OutcomeLemmas.{tree_decides, optimal_is_true, infeasible_is_true, only_trees_show_infeasible}
use Rattle.strategy.proofs.laws.what_is_shown_is_true.Goals as goal

pub returns-clause-tree : goal.returns-clause-tree
returns-clause-tree c = tree_decides

pub returns-clause-optimal : goal.returns-clause-optimal
returns-clause-optimal c = optimal_is_true

pub returns-clause-infeasible : goal.returns-clause-infeasible
returns-clause-infeasible c = infeasible_is_true

pub returns-clause-alone : goal.returns-clause-alone
returns-clause-alone c = only_trees_show_infeasible
