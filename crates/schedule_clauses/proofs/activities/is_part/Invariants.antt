use Rattle.std.proofs.Common.{◌≡◌, ℕ, ◌<◌, get_or}
use Rattle.std.specs.Int.Bits.{bit_and}
use Rattle.schedule_clauses.proofs.activities.is_part.Given as goal

abbrev pub invariant-loop-at : goal.invariant-loop-at
invariant-loop-at l = (k : ℕ) → k < l.at → bit_and (get_or l.part k 0) (get_or l.whole k 0) ≡ get_or l.part k 0
