use Rattle.std.proofs.Common.{◌≡◌, ◌+◌, ◌++◌, map}
use Rattle.mrcpsp.specs.Breaches.{passing, is_short}
use Rattle.mrcpsp.specs.declared.breach.Breach.TheVariants.{Nonrenewable}
use Rattle.mrcpsp.proofs.breaches.push_short.Given as goal

abbrev pub invariant-loop-resource : goal.invariant-loop-resource
invariant-loop-resource l = l.told.items ≡ l.initial.told.items ++ map (λ r. Nonrenewable (r + 1)) (passing (is_short l.fitting.project.now l.fitting.schedule.now) l.resource)
