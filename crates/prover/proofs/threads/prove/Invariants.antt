use Rattle.prover.proofs.threads.prove.Given as goal

abbrev pub ghosts-prove_together : goal.ghosts-prove_together
ghosts-prove_together g a = record { project = a.project.now }
