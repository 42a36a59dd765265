use Rattle.std.proofs.Common.{◌≡◌, map, take}
use Rattle.farm_core.specs.World.{new_numbers}
use Rattle.farm_core.proofs.farm.open_numbers.Given as goal

abbrev pub invariant-loop : goal.invariant-loop
invariant-loop l = l.numbers.items ≡ map (λ line. new_numbers) (take l.index l.config.tenants)
