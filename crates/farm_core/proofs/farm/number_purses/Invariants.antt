use Rattle.std.proofs.Common.{◌≡◌, map}
use Rattle.std.specs.List.{range_with_len}
use Rattle.farm_core.specs.World.{purse_in}
use Rattle.farm_core.proofs.farm.number_purses.Given as goal

abbrev pub invariant-loop-tenant : goal.invariant-loop-tenant
invariant-loop-tenant l = l.purses.items ≡ map (purse_in l.config) (range_with_len 0 l.tenant)
