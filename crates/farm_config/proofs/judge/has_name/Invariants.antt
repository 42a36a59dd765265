use Rattle.std.proofs.Common.{◌≡◌, drop}
use Rattle.farm_core.specs.Config.{has_name}
use Rattle.farm_config.proofs.judge.has_name.Given as goal

abbrev pub invariant-loop-line : goal.invariant-loop-line
invariant-loop-line l = has_name l.name (drop l.line-index l.lines) ≡ has_name l.name l.lines
