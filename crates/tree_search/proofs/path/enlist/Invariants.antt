use Rattle.std.proofs.Common.{take}
use Rattle.tree_search.specs.Path.{HasEntered}
use Rattle.tree_search.proofs.path.enlist.Given as goal

abbrev pub invariant-loop-other : goal.invariant-loop-other
invariant-loop-other l = HasEntered (take l.other-index l.after) l.before l.finishes l.initial.eligible l.initial.readies.items l.eligible l.readies.items
