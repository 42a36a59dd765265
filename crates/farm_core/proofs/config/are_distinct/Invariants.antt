use Rattle.std.proofs.Common.{◌≡◌, drop}
use Rattle.farm_core.specs.Config.{are_distinct}
use Rattle.farm_core.proofs.config.are_distinct.Given as goal

abbrev pub invariant-loop-i : goal.invariant-loop-i
invariant-loop-i l = are_distinct (drop l.i l.lines) ≡ are_distinct l.lines
