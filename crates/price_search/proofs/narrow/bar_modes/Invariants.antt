use Rattle.std.proofs.Common.{◌≡◌}
use Rattle.price_search.proofs.narrow.bar_modes.Given as goal

abbrev pub invariant-loop-mode : goal.invariant-loop-mode
invariant-loop-mode l = (l.barred.project ≡ l.initial.barred.project) × (l.barred.bound ≡ l.initial.barred.bound)
