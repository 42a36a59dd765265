use Rattle.std.proofs.Common.{◌≡◌, ℕ, ◌+◌, ◌-◌, ◌%◌, ◌<◌, ◌≤◌, length, get_or}
use Rattle.serial_pass.proofs.amounts.take_off.Given as goal

abbrev pub invariant-loop-kind : goal.invariant-loop-kind
invariant-loop-kind l = record {
  fit : length l.rests ≡ 8;
  done : (r : ℕ) → r < l.kind → get_or l.rests r 0 ≡ (get_or l.amounts r 0 + (4294967296 - get_or l.less r 0)) % 4294967296;
  rest : (r : ℕ) → l.kind ≤ r → get_or l.rests r 0 ≡ get_or l.amounts r 0;
}
