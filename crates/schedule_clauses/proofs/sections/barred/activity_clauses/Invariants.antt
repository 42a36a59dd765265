use Rattle.std.proofs.Common.{◌≡◌}
use Rattle.schedule_clauses.proofs.sections.barred.activity_clauses.Given as goal

abbrev pub invariant-loop-mode : goal.invariant-loop-mode
invariant-loop-mode l = l.clauses ≡ l.initial.clauses
