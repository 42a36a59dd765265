use Rattle.solver_tests.proofs.pairs.search_any.Given as goal

abbrev pub ghosts-search_both : goal.ghosts-search_both
ghosts-search_both a = record { clauses = a.formula.now }
