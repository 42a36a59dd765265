use Rattle.prover.proofs.team.ask_together.Given as goal

abbrev pub ghosts-ask_as : goal.ghosts-ask_as
ghosts-ask_as g a = record { clauses = a.formula.now.clauses }
