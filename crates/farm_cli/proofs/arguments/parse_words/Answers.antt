use Rattle.std.proofs.Common.{map, sym, ap, ◌∙◌, string_bytes}
use Rattle.clap.specs.Words.{App, fault_of, is_simple_and_free}
use Rattle.farm_cli.proofs.CommandLineLemmas.{farm_free}
use Rattle.farm_cli.proofs.arguments.parse_words.Goals as goal

pub returns-in-Ok-clause-judged : goal.returns-in-Ok-clause-judged
returns-in-Ok-clause-judged c =
    λ _. sym (ap (λ (a : App). fault_of a (map string_bytes c.args.words.now)) c.in_ok-command.ensures) ∙ c.in-Ok.ensures.kinds (ap is_simple_and_free c.in_ok-command.ensures ∙ farm_free)
