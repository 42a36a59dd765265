use Rattle.std.proofs.Common.{◌≡◌, ℕ, ◌<◌, [], length, get_or}
use Rattle.serial_pass.specs.Waiting.{no_wait}
use Rattle.serial_pass.proofs.tables.first_waits.Given as goal

abbrev pub invariant-loop-activity : goal.invariant-loop-activity
invariant-loop-activity l = record {
  count : length l.waits.items ≡ l.activity;
  each : (j : ℕ) → j < l.activity → get_or l.waits.items j no_wait ≡ record { ready = 0; point = 0; missing = length (get_or l.before j []) };
}
