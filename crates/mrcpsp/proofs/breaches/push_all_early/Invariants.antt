use Rattle.std.proofs.Common.{◌≡◌, ◌++◌}
use Rattle.std.specs.List.{range_with_len, flat_map}
use Rattle.mrcpsp.specs.Breaches.{early_after}
use Rattle.mrcpsp.proofs.breaches.push_all_early.Given as goal

abbrev pub invariant-loop-before : goal.invariant-loop-before
invariant-loop-before l = l.told.items ≡ l.initial.told.items ++ flat_map (early_after l.fitting.project.now l.fitting.schedule.now) (range_with_len 0 l.before)
