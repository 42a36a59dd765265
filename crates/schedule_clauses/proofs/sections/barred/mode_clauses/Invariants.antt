use Rattle.std.proofs.Common.{◌≡◌}
use Rattle.schedule_clauses.proofs.sections.barred.mode_clauses.Given as goal

abbrev pub invariant-loop-from : goal.invariant-loop-from
invariant-loop-from l = l.clauses ≡ l.initial.clauses
