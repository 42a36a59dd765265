use Rattle.std.proofs.Common.{◌≡◌, ℕ, ◌==◌, ◌<◌, ◌≤◌, false, [], length, get_or}
use Rattle.serial_sgs.specs.Members.{has}
use Rattle.tree_search.proofs.path.first_eligible.Given as goal

abbrev pub invariant-loop-activity : goal.invariant-loop-activity
invariant-loop-activity l = record {
  done : (j : ℕ) → j < l.activity → has l.eligible j ≡ (length (get_or l.before j []) == 0);
  rest : (j : ℕ) → l.activity ≤ j → j < 256 → has l.eligible j ≡ false;
}
