use Rattle.mrcpsp.proofs.StartLemmas.{IsFound}
use Rattle.mrcpsp.proofs.breaches.periods_of.Given as goal

abbrev pub invariant-loop-at : goal.invariant-loop-at
invariant-loop-at l = IsFound l.schedule.starts l.starts.items l.at l.periods.items
