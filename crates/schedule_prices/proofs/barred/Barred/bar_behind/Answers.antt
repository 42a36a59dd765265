use Rattle.std.proofs.Common.{◌≡◌, Some, refl, sym, ap, ◌∙◌, arith}
use Rattle.mrcpsp.specs.Project.{ProjectData, duration}
use Rattle.schedule_prices.specs.declared.choice_range.ChoiceRange.{ChoiceRange}
use Rattle.schedule_prices.proofs.TightLemmas.{behind-piece}
use Rattle.schedule_prices.proofs.barred.Barred.bar_behind.Goals as goal

pub bar-requires : goal.bar-requires
bar-requires c =
    let x : ChoiceRange = record { activity = c.args.before; mode = Some c.loop-mode.mode; from = c.saturating_sub.result; to = c.bound-bound.result } in
    let same : c.project-project.result.now ≡ c.loop-mode.self.project = c.project-project.ensures ∙ sym c.loop-mode.invariant.0.project in
    let long : c.duration-duration.result ≡ duration c.loop-mode.self.project c.args.before c.loop-mode.mode = c.duration-duration.ensures.exact ∙ ap (λ (p : ProjectData). duration p c.args.before c.loop-mode.mode) same in
    behind-piece c.args.self.now c.loop-mode.self x c.loop-mode.mode c.args.last c.loop-mode.invariant.0 c.loop-mode.invariant.1 refl (omega (arith, long, c.saturating_sub.ensures)) c.requires.ends
