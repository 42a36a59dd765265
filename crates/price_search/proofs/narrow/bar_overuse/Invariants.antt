use Rattle.std.proofs.Common.{◌≡◌}
use Rattle.price_search.proofs.narrow.bar_overuse.Given as goal

abbrev pub invariant-loop-at : goal.invariant-loop-at
invariant-loop-at l = (l.barred.project ≡ l.initial.barred.project) × (l.barred.bound ≡ l.initial.barred.bound)
