use Rattle.std.proofs.Common.{◌≡◌}
use Rattle.schedule_clauses.proofs.sections.starts.precedence_section.Given as goal

abbrev pub invariant-loop-after : goal.invariant-loop-after
invariant-loop-after l = l.clauses ≡ l.initial.clauses

abbrev pub invariant-loop-before : goal.invariant-loop-before
invariant-loop-before l = l.clauses ≡ l.initial.clauses
