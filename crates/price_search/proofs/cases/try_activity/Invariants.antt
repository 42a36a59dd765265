use Rattle.std.proofs.Common.{◌≡◌}
use Rattle.price_search.proofs.cases.try_activity.Given as goal

abbrev pub invariant-loop-piece : goal.invariant-loop-piece
invariant-loop-piece l = (l.barred.project ≡ l.initial.barred.project) × (l.barred.bound ≡ l.initial.barred.bound)
