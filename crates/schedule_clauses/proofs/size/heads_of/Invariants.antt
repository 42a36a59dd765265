use Rattle.schedule_clauses.specs.Heads.{AreHeads}
use Rattle.schedule_clauses.proofs.size.heads_of.Given as goal

abbrev pub invariant-loop-activity : goal.invariant-loop-activity
invariant-loop-activity l = AreHeads l.project l.heads.items l.activity
