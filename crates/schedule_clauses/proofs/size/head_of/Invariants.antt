use Rattle.std.proofs.Common.{◌≡◌}
use Rattle.mrcpsp.specs.Numbers.{max_below}
use Rattle.schedule_clauses.specs.Size.{head}
use Rattle.schedule_clauses.proofs.SizeLemmas.{through}
use Rattle.schedule_clauses.proofs.size.head_of.Given as goal

abbrev pub invariant-loop-before : goal.invariant-loop-before
invariant-loop-before l = l.longest ≡ max_below (through l.project l.activity (head l.project)) l.before
