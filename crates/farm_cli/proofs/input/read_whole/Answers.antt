use Rattle.std.proofs.Common.{rules}
use Rattle.file_commands.specs.declared.inputs.TheConstants.{MOST_TEXT}
use Rattle.farm_cli.proofs.InputLemmas.{whole_known, cut_known}
use Rattle.farm_cli.proofs.input.read_whole.Goals as goal

pub returns-then-len-eq-MOST_TEXT : goal.returns-then-len-eq-MOST_TEXT
returns-then-len-eq-MOST_TEXT g c =
    cut_known MOST_TEXT (g.R.Read.remaining c.args.reader) c.in_ok-bytes.bytes.items c.in_ok-bytes.ensures.front (search rules)

pub returns : goal.returns
returns g c =
    whole_known MOST_TEXT (g.R.Read.remaining c.args.reader) c.in_ok-bytes.bytes.items c.in_ok-bytes.ensures.front (search rules)
