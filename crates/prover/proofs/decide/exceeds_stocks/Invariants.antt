use Rattle.prover.proofs.decide.exceeds_stocks.Given as goal

abbrev pub ghosts-exceeds_stocks_as : goal.ghosts-exceeds_stocks_as
ghosts-exceeds_stocks_as g a = record { clauses = a.formula.now }
