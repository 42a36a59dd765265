use Rattle.std.proofs.Common.{◌≡◌, ℕ, ◌<◌, ◌≤◌, length, get_or}
use Rattle.farm_core.specs.Config.{purse_names}
use Rattle.farm_core.specs.Purses.{passing, is_first, purse_of}
use Rattle.farm_core.proofs.purses.Purses.of.Given as goal

-- the tenants so far are numbered, and so many of them are first members
abbrev pub invariant-loop-tenant : goal.invariant-loop-tenant
invariant-loop-tenant l = record {
  fit : length l.numbers ≡ 64;
  done : (t : ℕ) → t < l.tenant → get_or l.numbers t 0 ≡ purse_of (purse_names l.lines) t;
  exact : l.count ≡ length (passing (is_first (purse_names l.lines)) l.tenant);
  most : l.count ≤ l.tenant;
}
