use Rattle.prover.proofs.decide.decide_within.Given as goal

abbrev pub ghosts-decide_as : goal.ghosts-decide_as
ghosts-decide_as g a = record { clauses = a.formula.now.clauses }
