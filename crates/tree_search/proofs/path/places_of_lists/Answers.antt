use Rattle.std.proofs.Common.{arith}
use Rattle.tree_search.proofs.PathLemmas.{triangle_next}
use Rattle.tree_search.proofs.path.places_of_lists.Goals as goal

pub loop-list-preserved : goal.loop-list-preserved
loop-list-preserved c = (omega (arith, c.loop-list.invariant.0, triangle_next c.loop-list.list), omega (arith, c.loop-list.invariant.1))
