use Rattle.std.proofs.Common.{◌≡◌}
use Rattle.price_search.proofs.cases.try_all.Given as goal

abbrev pub invariant-loop-activity : goal.invariant-loop-activity
invariant-loop-activity l = (l.barred.project ≡ l.initial.barred.project) × (l.barred.bound ≡ l.initial.barred.bound)
