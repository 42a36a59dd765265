use Rattle.std.proofs.Common.{◌≡◌, ◌+◌, ◌++◌, map}
use Rattle.mrcpsp.specs.Breaches.{passing, is_early}
use Rattle.mrcpsp.specs.declared.breach.Breach.TheVariants.{Precedence}
use Rattle.mrcpsp.proofs.breaches.push_early.Given as goal

abbrev pub invariant-loop-after : goal.invariant-loop-after
invariant-loop-after l = l.told.items ≡ l.initial.told.items ++ map (λ j. Precedence (l.before + 1) (j + 1)) (passing (is_early l.fitting.project.now l.fitting.schedule.now l.before) l.after)
