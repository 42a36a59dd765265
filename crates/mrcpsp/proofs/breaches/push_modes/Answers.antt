use Rattle.std.proofs.Common.{◌≡◌, ◌+◌, [], ◌∷◌, ◌++◌, sym, ap, ◌∙◌}
use Rattle.mrcpsp.specs.Breaches.{is_modeless}
use Rattle.mrcpsp.specs.declared.breach.Breach.TheVariants.{Mode}
use Rattle.mrcpsp.proofs.PassingLemmas.{number_told, number_passed}
use Rattle.mrcpsp.proofs.breaches.push_modes.Goals.{then-is_modeless+in_ok-push, else-is_modeless}
use Rattle.mrcpsp.proofs.breaches.push_modes.Goals as goal

pub loop-activity-preserved : goal.loop-activity-preserved
loop-activity-preserved c =
    let test = is_modeless c.args.project.now c.args.schedule.now in
    let old = c.args.told.now.items in
    let now = c.loop-activity.told.items in
    let at = c.loop-activity.activity in
    elim c.if-is_modeless.branch [
      | then-is_modeless+in_ok-push w ↦
          let more : c.if-is_modeless.told.items ≡ now ++ Mode (at + 1) ∷ [] = ap (λ v. v.items) w.told-is ∙ w.in_ok-push.ensures.items in
          more ∙ number_told (λ j. Mode (j + 1)) test at old now (sym w.if-is_modeless.ensures) c.loop-activity.invariant
      | else-is_modeless w ↦
          let same : c.if-is_modeless.told.items ≡ now = ap (λ v. v.items) w.told-is in
          same ∙ number_passed (λ j. Mode (j + 1)) test at old now (sym w.if-is_modeless.ensures) c.loop-activity.invariant
    ]
