use Rattle.tree_search.specs.Table.{AreSome}
use Rattle.tree_search.proofs.table.push_modes.Given as goal

abbrev pub invariant-loop-mode : goal.invariant-loop-mode
invariant-loop-mode l = AreSome l.project l.activity l.mode l.initial.list.items l.list.items
