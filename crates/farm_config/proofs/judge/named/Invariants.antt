use Rattle.std.proofs.Common.{◌≡◌, take, drop}
use Rattle.std.specs.List.{find, enumerate_from}
use Rattle.farm_config.specs.Config.{is_misnamed}
use Rattle.farm_config.proofs.judge.named.Given as goal

-- the tenants so far are well named, and their lines are here
abbrev pub invariant-loop-index : goal.invariant-loop-index
invariant-loop-index l =
    (l.lines.items ≡ take l.index l.drafts)
    × (find (is_misnamed l.drafts) (enumerate_from 0 l.drafts) ≡ find (is_misnamed l.drafts) (enumerate_from l.index (drop l.index l.drafts)))
