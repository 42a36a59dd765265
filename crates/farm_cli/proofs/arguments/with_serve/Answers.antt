use Rattle.std.proofs.Common.{ap, ap₂, codes, ◌≡◌, ◌∙◌, ◌||◌, Bool}
use Rattle.std.proofs.lemmas.Result.{IfOk-weaker}
use Rattle.clap.specs.Words.{App, app_of, new_app, with_rule, with_subcommand}
use Rattle.clap.specs.Simple.{app_of_fields}
use Rattle.farm_cli.specs.CommandLine.{serve_app}
use Rattle.farm_cli.proofs.arguments.with_serve.Goals as goal

abbrev either : Bool → Bool → Bool
either a b = a || b

pub returns : goal.returns
returns c =
    let serve_new : app_of c.after_help.result ≡ new_app (codes "serve") = ap app_of_fields c.after_help.ensures ∙ ap app_of_fields c.about.ensures ∙ c.new.ensures.app in
    let serve_is : app_of c.in_ok-serve.serve ≡ serve_app =
    c.in_ok-serve.ensures.shape c.needed_number-sessions.ensures.own
    ∙ ap₂ with_rule
    (c.in_ok-arg-2.ensures.shape c.needed_number-port.ensures.own
    ∙ ap₂ with_rule
    (c.in_ok-arg.ensures.shape c.needed_option-config.ensures.own ∙ ap₂ with_rule serve_new c.needed_option-config.ensures.rule)
    c.needed_number-port.ensures.rule)
    c.needed_number-sessions.ensures.rule in
    IfOk-weaker c.subcommand.result _ _
    (λ whole h.
    h.shape
    (c.in_ok-serve.ensures.globals
    ∙ ap₂ either
    (c.in_ok-arg-2.ensures.globals
    ∙ ap₂ either
    (c.in_ok-arg.ensures.globals ∙ ap₂ either (ap (λ f. f.has_globals) c.after_help.ensures ∙ ap (λ f. f.has_globals) c.about.ensures ∙ c.new.ensures.local) c.needed_option-config.ensures.own)
    c.needed_number-port.ensures.own)
    c.needed_number-sessions.ensures.own)
    ∙ ap (with_subcommand (app_of c.args.command)) (ap (λ (a : App). a.top) serve_is))
    c.subcommand.ensures
