use Rattle.std.proofs.Common.{◌≡◌, Some, None, ap, ◌∙◌}
use Rattle.mrcpsp.specs.Project.{ProjectData, duration}
use Rattle.strategy.specs.Pass.{first_least}
use Rattle.serial_pass.specs.Pass.{allowed_in}
use Rattle.rule_search.proofs.ChoiceLemmas.{chosen_none, chosen_mode}
use Rattle.rule_search.proofs.choice.choose.Goals as goal

pub returns-in_err-activity : goal.returns-in_err-activity
returns-in_err-activity c i =
    let pass = c.args.pass.now in
    c.from_residual.ensures ∙ chosen_none pass.project c.args.kind i pass.placed c.requires.rule (c.in_err-activity.ensures.exact i)

pub returns-in_err-mode : goal.returns-in_err-mode
returns-in_err-mode c i =
    let pass = c.args.pass.now in let j = c.in_ok-activity.activity in
    let listed : None ≡ first_least (duration pass.project j) (allowed_in pass.project pass.placed j) =
    c.in_err-mode.ensures ∙ ap (λ (q : ProjectData). first_least (duration q j) c.as_slice.result.now) c.project.ensures ∙ ap (first_least (duration pass.project j)) (c.as_slice.ensures ∙ c.allowed_modes-modes.ensures.exact) in
    c.from_residual-in_err-mode.ensures ∙ chosen_mode pass.project c.args.kind i pass.placed j None c.requires.rule (c.in_ok-activity.ensures.exact i) listed

pub returns : goal.returns
returns c i =
    let pass = c.args.pass.now in let j = c.in_ok-activity.activity in
    let listed : Some c.in_ok-mode.mode ≡ first_least (duration pass.project j) (allowed_in pass.project pass.placed j) =
    c.in_ok-mode.ensures ∙ ap (λ (q : ProjectData). first_least (duration q j) c.as_slice.result.now) c.project.ensures ∙ ap (first_least (duration pass.project j)) (c.as_slice.ensures ∙ c.allowed_modes-modes.ensures.exact) in
    chosen_mode pass.project c.args.kind i pass.placed j (Some c.in_ok-mode.mode) c.requires.rule (c.in_ok-activity.ensures.exact i) listed
