use Rattle.std.proofs.Common.{◌≡◌, ℕ, ◌+◌, ◌-◌, ◌*◌, ◌<◌, ◌≤◌, ◌++◌, List, get_or}
use Rattle.std.specs.Int.{bit_at}
use Rattle.strategy.specs.Pass.{drawn_at}
use Rattle.serial_pass.specs.Eligible.{AreListed, in_word}
use Rattle.serial_pass.proofs.eligible.drawn_in.Given as goal

abbrev pub invariant-loop-bits : goal.invariant-loop-bits
invariant-loop-bits l = record {
  listed : AreListed l.bits l.word l.lfts;
  most : (i : ℕ) → i < 64 → bit_at l.bits i ≡ 1 → get_or l.lfts (l.word * 64 + i) 0 ≤ l.most;
  drawn : (more : List ℕ) → drawn_at (λ j. l.most - get_or l.lfts j 0) l.rest (in_word l.fn.bits l.word ++ more) ≡ drawn_at (λ j. l.most - get_or l.lfts j 0) l.left (in_word l.bits l.word ++ more);
}

abbrev pub decreases-loop-bits : goal.decreases-loop-bits
decreases-loop-bits l = l.bits
