use Rattle.std.proofs.Common.{ap, ap₂, codes, ◌≡◌, ◌∙◌, ◌||◌, true, false, Bool}
use Rattle.std.proofs.lemmas.Result.{IfOk-weaker}
use Rattle.clap.specs.Words.{App, Rule, app_of, rule_of, new_app, with_rule, with_subcommand}
use Rattle.clap.specs.Simple.{app_of_fields}
use Rattle.farm_cli.specs.CommandLine.{needed, check_app, replay_app, serve_app}
use Rattle.farm_cli.proofs.arguments.with_commands.Goals as goal

abbrev owed : Rule → Rule
owed r = record r { required = true }

abbrev either : Bool → Bool → Bool
either a b = a || b

pub returns : goal.returns
returns c =
    let file_is : rule_of c.required-file.result ≡ needed (codes "FILE") = ap rule_of c.required-file.ensures ∙ ap (λ a. owed (rule_of a)) c.help.ensures ∙ ap owed c.new.ensures.rule in
    let script_is : rule_of c.required-script.result ≡ needed (codes "SCRIPT") = ap rule_of c.required-script.ensures ∙ ap (λ a. owed (rule_of a)) c.help-2.ensures ∙ ap owed c.new-3.ensures.rule in
    let file_own : c.required-file.result.global ≡ false = ap (λ a. a.global) c.required-file.ensures ∙ ap (λ a. a.global) c.help.ensures ∙ c.new.ensures.optional.1 in
    let script_own : c.required-script.result.global ≡ false = ap (λ a. a.global) c.required-script.ensures ∙ ap (λ a. a.global) c.help-2.ensures ∙ c.new-3.ensures.optional.1 in
    let check_new : app_of c.after_help.result ≡ new_app (codes "check") = ap app_of_fields c.after_help.ensures ∙ ap app_of_fields c.about.ensures ∙ c.new-2.ensures.app in
    let check_is : app_of c.in_ok-check.check ≡ check_app = c.in_ok-check.ensures.shape file_own ∙ ap₂ with_rule check_new file_is in
    let replay_new : app_of c.after_help-2.result ≡ new_app (codes "replay") = ap app_of_fields c.after_help-2.ensures ∙ ap app_of_fields c.about-2.ensures ∙ c.new-4.ensures.app in
    let replay_is : app_of c.in_ok-replay.replay ≡ replay_app = c.in_ok-replay.ensures.shape c.flag-strict.ensures.own
    ∙ ap₂ with_rule
    (c.in_ok-arg-2.ensures.shape script_own
    ∙ ap₂ with_rule (c.in_ok-arg.ensures.shape c.needed_option-config.ensures.own ∙ ap₂ with_rule replay_new c.needed_option-config.ensures.rule) script_is)
    c.flag-strict.ensures.rule in
    let first_is : app_of c.in_ok-subcommand.field-0 ≡ with_subcommand (app_of c.args.command) check_app.top =
    c.in_ok-subcommand.ensures.shape (c.in_ok-check.ensures.globals ∙ ap₂ either (ap (λ f. f.has_globals) c.after_help.ensures ∙ ap (λ f. f.has_globals) c.about.ensures ∙ c.new-2.ensures.local) file_own)
    ∙ ap (with_subcommand (app_of c.args.command)) (ap (λ (a : App). a.top) check_is) in
    let second_is : app_of c.in_ok-farm.farm ≡ with_subcommand (with_subcommand (app_of c.args.command) check_app.top) replay_app.top =
    c.in_ok-farm.ensures.shape (c.in_ok-replay.ensures.globals
    ∙ ap₂ either
    (c.in_ok-arg-2.ensures.globals
    ∙ ap₂ either
    (c.in_ok-arg.ensures.globals
    ∙ ap₂ either (ap (λ f. f.has_globals) c.after_help-2.ensures ∙ ap (λ f. f.has_globals) c.about-2.ensures ∙ c.new-4.ensures.local) c.needed_option-config.ensures.own)
    script_own)
    c.flag-strict.ensures.own)
    ∙ ap₂ with_subcommand first_is (ap (λ (a : App). a.top) replay_is) in
    IfOk-weaker c.with_serve.result _ _ (λ command h. h ∙ ap (λ a. with_subcommand a serve_app.top) second_is) c.with_serve.ensures
