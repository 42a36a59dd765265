use Rattle.std.proofs.Common.{◌≡◌, ℕ, ◌+◌, ◌<◌, ◌≤◌, length, get_or}
use Rattle.mrcpsp.specs.Project.{consumption}
use Rattle.mrcpsp.specs.Values.{least}
use Rattle.serial_sgs.proofs.rows.extras_of.Given as goal

abbrev pub invariant-loop-resource : goal.invariant-loop-resource
invariant-loop-resource l = record {
  fit : length l.extras ≡ 8;
  done : (r : ℕ) → r < l.resource → get_or l.extras r 0 + least l.project l.activity r ≡ consumption l.project l.activity l.mode r;
  rest : (r : ℕ) → l.resource ≤ r → get_or l.extras r 0 ≡ 0;
}
