use Rattle.std.proofs.Common.{◌≡◌, ◌-◌, map, take}
use Rattle.serial_sgs.proofs.order.places_of.Given as goal

abbrev pub invariant-loop-number : goal.invariant-loop-number
invariant-loop-number l = l.places.items ≡ map (λ s. s - 1) (take l.number-index l.numbers)
