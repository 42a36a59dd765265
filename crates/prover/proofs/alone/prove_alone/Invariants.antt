use Rattle.prover.proofs.alone.prove_alone.Given as goal

abbrev pub ghosts-prove_as : goal.ghosts-prove_as
ghosts-prove_as g a = record { project = a.project.now }
