use Rattle.std.proofs.Common.{◌≡◌, true, take}
use Rattle.std.specs.List.{list_all}
use Rattle.farm_core.specs.Config.{are_terms}
use Rattle.farm_core.proofs.config.are_all_terms.Given as goal

abbrev pub invariant-loop-line : goal.invariant-loop-line
invariant-loop-line l = list_all are_terms (take l.line-index l.lines) ≡ true
