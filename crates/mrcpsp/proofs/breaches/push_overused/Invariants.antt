use Rattle.std.proofs.Common.{◌≡◌, ◌+◌, ◌++◌, map, filter, take}
use Rattle.mrcpsp.specs.Breaches.{is_overused}
use Rattle.mrcpsp.specs.declared.breach.Breach.TheVariants.{Renewable}
use Rattle.mrcpsp.proofs.breaches.push_overused.Given as goal

abbrev pub invariant-loop-period : goal.invariant-loop-period
invariant-loop-period l = l.told.items ≡ l.initial.told.items ++ map (Renewable (l.resource + 1)) (filter (is_overused l.fitting.project.now l.fitting.schedule.now l.resource) (take l.period-index l.periods))
