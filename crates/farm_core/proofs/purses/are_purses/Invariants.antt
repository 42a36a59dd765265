use Rattle.std.proofs.Common.{◌≡◌, ◌-◌, nat_le}
use Rattle.std.specs.List.{list_all, range_with_len}
use Rattle.farm_core.specs.Config.{purse_names, member_lines, granted_by, are_purses}
use Rattle.farm_core.specs.Purses.{purses}
use Rattle.farm_core.proofs.purses.are_purses.Given as goal

-- the purses so far are within their bounds
abbrev pub invariant-loop-purse : goal.invariant-loop-purse
invariant-loop-purse l =
    are_purses l.lines
    ≡ list_all (λ p. nat_le (granted_by (member_lines l.lines p)) 1000000000000) (range_with_len l.purse (purses (purse_names l.lines) - l.purse))
