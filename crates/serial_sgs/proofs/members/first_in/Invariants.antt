use Rattle.std.proofs.Common.{◌≡◌, ℕ, ◌*◌, ◌<◌, ◌≤◌, false}
use Rattle.serial_sgs.specs.Members.{has}
use Rattle.serial_sgs.proofs.members.first_in.Given as goal

abbrev pub invariant-loop-word : goal.invariant-loop-word
invariant-loop-word l = (i : ℕ) → l.fn.first * 64 ≤ i → i < l.word * 64 → has l.words i ≡ false
