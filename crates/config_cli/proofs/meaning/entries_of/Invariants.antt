use Rattle.std.proofs.Common.{◌≡◌, ◌≤◌, ◌*◌}
use Rattle.config_cli.specs.ConfigText.{entries_below}
use Rattle.config_cli.proofs.meaning.entries_of.Given as goal

-- the sum so far; each number has 64 bits
abbrev pub invariant-loop-line : goal.invariant-loop-line
invariant-loop-line l = record {
  sum : l.entries ≡ entries_below l.config l.line-index;
  few : l.entries ≤ l.line-index * 18446744073709551615;
}
