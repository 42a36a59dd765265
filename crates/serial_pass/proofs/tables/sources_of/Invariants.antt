use Rattle.std.proofs.Common.{◌≡◌, ℕ, ◌==◌, ◌<◌, ◌≤◌, false, [], length, get_or}
use Rattle.mrcpsp.specs.Project.{ProjectData, size}
use Rattle.serial_sgs.specs.Members.{has}
use Rattle.serial_pass.specs.Eligible.{AreFinishes, HasSums}
use Rattle.serial_pass.proofs.tables.sources_of.Given as goal

abbrev pub invariant-loop-activity : goal.invariant-loop-activity
invariant-loop-activity l = record {
  done : (j : ℕ) → j < l.activity → has l.sources.set j ≡ (length (get_or l.before j []) == 0);
  rest : (j : ℕ) → l.activity ≤ j → j < 256 → has l.sources.set j ≡ false;
  sums : (p : ProjectData) → AreFinishes p l.lfts → size p ≡ length l.before → HasSums p l.sources;
}
