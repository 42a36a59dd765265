use Rattle.std.proofs.Common.{◌≡◌}
use Rattle.schedule_clauses.proofs.diagram.rows.level_clauses.Given as goal

abbrev pub invariant-loop-amount : goal.invariant-loop-amount
invariant-loop-amount l = l.clauses ≡ l.initial.clauses
