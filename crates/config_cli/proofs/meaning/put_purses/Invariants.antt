use Rattle.std.proofs.Common.{◌≡◌, ◌++◌, string_bytes}
use Rattle.config_cli.specs.ConfigText.{concat_below, purse_line}
use Rattle.config_cli.proofs.meaning.put_purses.Given as goal

abbrev pub invariant-loop-purse : goal.invariant-loop-purse
invariant-loop-purse l = string_bytes l.text ≡ string_bytes l.initial.text ++ concat_below (purse_line l.config) l.purse
