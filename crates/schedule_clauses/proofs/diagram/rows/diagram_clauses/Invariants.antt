use Rattle.std.proofs.Common.{◌≡◌}
use Rattle.schedule_clauses.proofs.diagram.rows.diagram_clauses.Given as goal

abbrev pub invariant-loop-level : goal.invariant-loop-level
invariant-loop-level l = l.clauses ≡ l.initial.clauses
