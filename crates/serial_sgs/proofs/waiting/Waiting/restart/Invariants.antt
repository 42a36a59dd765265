use Rattle.std.proofs.Common.{◌≡◌, ℕ, ◌<◌, false, [], length, get_or}
use Rattle.serial_sgs.proofs.waiting.Waiting.restart.Given as goal

abbrev pub invariant-loop-activity : goal.invariant-loop-activity
invariant-loop-activity l = record {
  count : length l.self.flags ≡ length l.before;
  none : (j : ℕ) → j < l.activity → get_or l.self.flags j false ≡ false;
  each : (j : ℕ) → j < l.activity → get_or l.self.missing j 0 ≡ length (get_or l.before j []);
}
