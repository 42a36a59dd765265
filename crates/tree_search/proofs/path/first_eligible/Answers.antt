use Rattle.std.proofs.Common.{arith}
use Rattle.tree_search.proofs.PathLemmas.{empty_set}
use Rattle.tree_search.proofs.path.first_eligible.Goals as goal

pub loop-activity-init : goal.loop-activity-init
loop-activity-init c = record {
  done = λ j l. absurd (omega arith);
  rest = λ j _ _. empty_set j;
}
