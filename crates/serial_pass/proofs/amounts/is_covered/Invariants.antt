use Rattle.std.proofs.Common.{◌≡◌, ℕ, ◌+◌, ◌-◌, ◌%◌, ◌<◌, ◌↔◌, get_or}
use Rattle.serial_pass.proofs.amounts.is_covered.Given as goal

abbrev pub invariant-loop-kind : goal.invariant-loop-kind
invariant-loop-kind l = (l.over ≡ 0) ↔ ((r : ℕ) → r < l.kind → (get_or l.there r 0 + (4294967296 - get_or l.taken r 0)) % 4294967296 < 2147483648)
