use Rattle.std.proofs.Common.{◌≡◌, ℕ, ◌<◌, ◌≤◌, length, get_or}
use Rattle.mrcpsp.specs.Project.{request}
use Rattle.serial_sgs.proofs.rows.requests_of.Given as goal

abbrev pub invariant-loop-resource : goal.invariant-loop-resource
invariant-loop-resource l = record {
  fit : length l.requests ≡ 8;
  done : (r : ℕ) → r < l.resource → get_or l.requests r 0 ≡ request l.project l.activity l.mode r;
  rest : (r : ℕ) → l.resource ≤ r → get_or l.requests r 0 ≡ 0;
}
