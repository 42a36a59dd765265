use Rattle.std.proofs.Common.{ap, codes, ◌≡◌, ◌∙◌}
use Rattle.std.proofs.lemmas.Result.{IfOk-weaker}
use Rattle.clap.specs.Words.{app_of, new_app}
use Rattle.clap.specs.Simple.{app_of_fields}
use Rattle.farm_cli.specs.CommandLine.{asking, with_three}
use Rattle.farm_cli.proofs.arguments.farm_command.Goals as goal

pub returns : goal.returns
returns c =
    let asking_is : app_of c.subcommand_required.result ≡ asking (new_app (codes "farm")) = ap app_of_fields c.subcommand_required.ensures ∙ ap asking c.new.ensures.app in
    IfOk-weaker c.with_commands.result _ _ (λ command h. h ∙ ap with_three asking_is) c.with_commands.ensures
