use Rattle.std.proofs.Common.{◌≡◌, ◌++◌}
use Rattle.std.specs.List.{range_with_len, flat_map}
use Rattle.mrcpsp.specs.Breaches.{overuse_of}
use Rattle.mrcpsp.proofs.breaches.push_all_overused.Given as goal

abbrev pub invariant-loop-resource : goal.invariant-loop-resource
invariant-loop-resource l = l.told.items ≡ l.initial.told.items ++ flat_map (overuse_of l.fitting.project.now l.fitting.schedule.now) (range_with_len 0 l.resource)
