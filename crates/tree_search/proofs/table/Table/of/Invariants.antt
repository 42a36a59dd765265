use Rattle.tree_search.specs.Table.{AreLines}
use Rattle.tree_search.proofs.table.Table.of.Given as goal

abbrev pub invariant-loop-activity : goal.invariant-loop-activity
invariant-loop-activity l = AreLines l.project l.activity l.list.items l.places.items
