use Rattle.solver_tests.proofs.searches.search_any.Given as goal

abbrev pub ghosts-search_formula : goal.ghosts-search_formula
ghosts-search_formula a = record { clauses = a.formula.now }
