use Rattle.std.proofs.Common.{◌≡◌, ◌*◌, ◌≤◌}
use Rattle.tree_search.specs.Path.{triangle}
use Rattle.tree_search.proofs.path.places_of_lists.Given as goal

abbrev pub invariant-loop-list : goal.invariant-loop-list
invariant-loop-list l = (l.places ≡ triangle l.list) × (l.places ≤ l.list * 203)
