use Rattle.std.proofs.Common.{◌≡◌}
use Rattle.price_search.proofs.narrow.narrow_modes.Given as goal

abbrev pub invariant-loop-number : goal.invariant-loop-number
invariant-loop-number l = (l.barred.project ≡ l.initial.barred.project) × (l.barred.bound ≡ l.initial.barred.bound)
