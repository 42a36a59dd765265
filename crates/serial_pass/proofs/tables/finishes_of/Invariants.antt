use Rattle.std.proofs.Common.{◌≡◌, ℕ, ◌<◌, length, get_or}
use Rattle.mrcpsp.specs.Values.{lft}
use Rattle.serial_pass.proofs.tables.finishes_of.Given as goal

abbrev pub invariant-loop-activity : goal.invariant-loop-activity
invariant-loop-activity l = record {
  count : length l.lfts.items ≡ l.activity;
  each : (j : ℕ) → j < l.activity → get_or l.lfts.items j 0 ≡ lft l.project j;
}
