use Rattle.std.proofs.Common.{ℕ, ◌+◌, ◌<◌, ◌≤◌, ◌↔◌, get_or}
use Rattle.serial_sgs.proofs.amounts.fits.Given as goal

abbrev pub invariant-loop-kind : goal.invariant-loop-kind
invariant-loop-kind l = (l.over < 2147483648) ↔ ((r : ℕ) → r < l.kind → get_or l.amounts r 0 + get_or l.more r 0 ≤ get_or l.most r 0)
