use Rattle.std.proofs.Common.{◌≡◌, ℕ, ◌<◌, ◌≤◌, length, get_or}
use Rattle.mrcpsp.specs.Project.{stock}
use Rattle.serial_sgs.proofs.rows.stocks_of.Given as goal

abbrev pub invariant-loop-resource : goal.invariant-loop-resource
invariant-loop-resource l = record {
  fit : length l.stocks ≡ 8;
  done : (r : ℕ) → r < l.resource → get_or l.stocks r 0 ≡ stock l.project r;
  rest : (r : ℕ) → l.resource ≤ r → get_or l.stocks r 0 ≡ 0;
}
