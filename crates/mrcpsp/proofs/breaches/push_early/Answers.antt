use Rattle.std.proofs.Common.{◌≡◌, ◌+◌, [], ◌∷◌, ◌++◌, sym, ap, ◌∙◌}
use Rattle.mrcpsp.specs.Breaches.{is_early}
use Rattle.mrcpsp.specs.declared.breach.Breach.TheVariants.{Precedence}
use Rattle.mrcpsp.proofs.PassingLemmas.{number_told, number_passed}
use Rattle.mrcpsp.proofs.breaches.push_early.Goals.{then-is_early+in_ok-push, else-is_early}
use Rattle.mrcpsp.proofs.breaches.push_early.Goals as goal

pub loop-after-preserved : goal.loop-after-preserved
loop-after-preserved c =
    let test = is_early c.args.fitting.now.project.now c.args.fitting.now.schedule.now c.args.before in
    let old = c.args.told.now.items in
    let now = c.loop-after.told.items in
    let at = c.loop-after.after in
    elim c.if-is_early.branch [
      | then-is_early+in_ok-push w ↦
          let more : c.if-is_early.told.items ≡ now ++ Precedence (c.args.before + 1) (at + 1) ∷ [] = ap (λ v. v.items) w.told-is ∙ w.in_ok-push.ensures.items in
          more ∙ number_told (λ j. Precedence (c.args.before + 1) (j + 1)) test at old now (sym w.if-is_early.ensures) c.loop-after.invariant
      | else-is_early w ↦
          let same : c.if-is_early.told.items ≡ now = ap (λ v. v.items) w.told-is in
          same ∙ number_passed (λ j. Precedence (c.args.before + 1) (j + 1)) test at old now (sym w.if-is_early.ensures) c.loop-after.invariant
    ]
