use Rattle.std.proofs.Common.{ap, ◌∙◌, List, ℕ, Some}
use Rattle.clap.specs.Words.{Rule, rule_of}
use Rattle.clap.specs.declared.builder.action.ArgAction.TheVariants.{SetTrue}
use Rattle.farm_cli.proofs.arguments.flag.Goals as goal

abbrev option : List ℕ → Rule → Rule
option id r = record r { long = Some id }

abbrev set : Rule → Rule
set r = record r { action = Some SetTrue }

pub returns-clause-rule : goal.returns-clause-rule
returns-clause-rule c =
    ap rule_of c.action.ensures ∙ ap (λ a. set (rule_of a)) c.help.ensures ∙ ap (λ a. set (rule_of a)) c.long.ensures ∙ ap (λ r. set (option c.args.name.now r)) c.new.ensures.rule

pub returns-clause-own : goal.returns-clause-own
returns-clause-own c = ap (λ a. a.global) c.action.ensures ∙ ap (λ a. a.global) c.help.ensures ∙ ap (λ a. a.global) c.long.ensures ∙ c.new.ensures.optional.1
