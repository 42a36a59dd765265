use Rattle.std.proofs.Common.{ℕ, ◌≡◌, ◌<◌, ◌↔◌, IsTrue, get_or}
use Rattle.serial_sgs.proofs.amounts.are_same.Given as goal

abbrev pub invariant-loop-kind : goal.invariant-loop-kind
invariant-loop-kind l = IsTrue l.holds ↔ ((r : ℕ) → r < l.kind → get_or l.one r 0 ≡ get_or l.other r 0)
