use Rattle.std.proofs.Common.{◌≡◌}
use Rattle.measures.proofs.ValueLemmas.{bound_below}
use Rattle.measures.proofs.values.bound_of.Given as goal

abbrev pub invariant-loop-activity : goal.invariant-loop-activity
invariant-loop-activity l = l.bound ≡ bound_below l.project l.activity
