use Rattle.std.proofs.Common.{ap, ◌∙◌, true, List, ℕ, Some}
use Rattle.clap.specs.Words.{Rule, rule_of}
use Rattle.farm_cli.proofs.arguments.needed_option.Goals as goal

abbrev owed : Rule → Rule
owed r = record r { required = true }

abbrev valued : Rule → Rule
valued r = record r { value_names = 1 }

abbrev option : List ℕ → Rule → Rule
option id r = record r { long = Some id }

pub returns-clause-rule : goal.returns-clause-rule
returns-clause-rule c =
    ap rule_of c.required.ensures ∙ ap (λ a. owed (rule_of a)) c.help.ensures ∙ ap (λ a. owed (rule_of a)) c.value_name.ensures ∙ ap (λ a. owed (valued (rule_of a))) c.long.ensures
    ∙ ap (λ r. owed (valued (option c.args.name.now r))) c.new.ensures.rule

pub returns-clause-own : goal.returns-clause-own
returns-clause-own c =
    ap (λ a. a.global) c.required.ensures ∙ ap (λ a. a.global) c.help.ensures ∙ ap (λ a. a.global) c.value_name.ensures ∙ ap (λ a. a.global) c.long.ensures ∙ c.new.ensures.optional.1
