use Rattle.certify_cli.proofs.refutation.refute_clauses.Given as goal

abbrev pub ghosts-refute_as : goal.ghosts-refute_as
ghosts-refute_as g a = record { clauses = a.formula.now }
