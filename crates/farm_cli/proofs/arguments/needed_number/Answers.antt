use Rattle.std.proofs.Common.{ap, ap₂, ◌∙◌, Option, Some}
use Rattle.clap.specs.Words.{Rule, rule_of}
use Rattle.clap.specs.declared.builder.value_parser.ValueParser.{ValueParser}
use Rattle.farm_cli.proofs.arguments.needed_number.Goals as goal

abbrev parsed : Rule → Option ValueParser → Rule
parsed r parser = record r { parser = parser }

pub returns-clause-rule : goal.returns-clause-rule
returns-clause-rule c =
    let given = c.value_parser.ensures.given in
    ap rule_of c.value_parser.ensures.others ∙ ap₂ parsed c.needed_option.ensures.rule (given.1 ∙ ap Some (given.2 ∙ c.unsigned-within.ensures))

pub returns-clause-own : goal.returns-clause-own
returns-clause-own c = ap (λ a. a.global) c.value_parser.ensures.others ∙ c.needed_option.ensures.own
