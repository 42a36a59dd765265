use Rattle.std.proofs.Common.{◌≡◌, ◌+◌, ◌++◌, map}
use Rattle.mrcpsp.specs.Breaches.{passing, is_modeless}
use Rattle.mrcpsp.specs.declared.breach.Breach.TheVariants.{Mode}
use Rattle.mrcpsp.proofs.breaches.push_modes.Given as goal

abbrev pub invariant-loop-activity : goal.invariant-loop-activity
invariant-loop-activity l = l.told.items ≡ l.initial.told.items ++ map (λ j. Mode (j + 1)) (passing (is_modeless l.project l.schedule) l.activity)
