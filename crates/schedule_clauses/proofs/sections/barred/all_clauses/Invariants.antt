use Rattle.std.proofs.Common.{◌≡◌}
use Rattle.schedule_clauses.proofs.sections.barred.all_clauses.Given as goal

abbrev pub invariant-loop-activity : goal.invariant-loop-activity
invariant-loop-activity l = l.clauses ≡ l.initial.clauses
