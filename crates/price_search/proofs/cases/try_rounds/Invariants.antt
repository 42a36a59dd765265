use Rattle.std.proofs.Common.{◌≡◌}
use Rattle.price_search.proofs.cases.try_rounds.Given as goal

abbrev pub invariant-loop : goal.invariant-loop
invariant-loop l = (l.barred.project ≡ l.initial.barred.project) × (l.barred.bound ≡ l.initial.barred.bound)
