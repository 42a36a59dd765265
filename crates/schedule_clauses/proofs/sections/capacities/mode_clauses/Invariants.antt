use Rattle.std.proofs.Common.{◌≡◌}
use Rattle.schedule_clauses.proofs.sections.capacities.mode_clauses.Given as goal

abbrev pub invariant-loop-mode : goal.invariant-loop-mode
invariant-loop-mode l = l.clauses ≡ l.initial.clauses

abbrev pub invariant-loop-other : goal.invariant-loop-other
invariant-loop-other l = l.clauses ≡ l.initial.clauses
