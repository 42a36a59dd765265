use Rattle.schedule_clauses.proofs.index.find_in.Given as goal

abbrev pub invariant-loop : goal.invariant-loop
invariant-loop l = Unit {0}
