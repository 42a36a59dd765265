use Rattle.std.proofs.Common.{◌≡◌, ◌+◌, [], ◌∷◌, ◌++◌, sym, ap, ◌∙◌}
use Rattle.mrcpsp.specs.Breaches.{is_short}
use Rattle.mrcpsp.specs.declared.breach.Breach.TheVariants.{Nonrenewable}
use Rattle.mrcpsp.proofs.PassingLemmas.{number_told, number_passed}
use Rattle.mrcpsp.proofs.breaches.push_short.Goals.{then-is_short+in_ok-push, else-is_short}
use Rattle.mrcpsp.proofs.breaches.push_short.Goals as goal

pub loop-resource-preserved : goal.loop-resource-preserved
loop-resource-preserved c =
    let test = is_short c.args.fitting.now.project.now c.args.fitting.now.schedule.now in
    let old = c.args.told.now.items in
    let now = c.loop-resource.told.items in
    let at = c.loop-resource.resource in
    elim c.if-is_short.branch [
      | then-is_short+in_ok-push w ↦
          let more : c.if-is_short.told.items ≡ now ++ Nonrenewable (at + 1) ∷ [] = ap (λ v. v.items) w.told-is ∙ w.in_ok-push.ensures.items in
          more ∙ number_told (λ r. Nonrenewable (r + 1)) test at old now (sym w.if-is_short.ensures) c.loop-resource.invariant
      | else-is_short w ↦
          let same : c.if-is_short.told.items ≡ now = ap (λ v. v.items) w.told-is in
          same ∙ number_passed (λ r. Nonrenewable (r + 1)) test at old now (sym w.if-is_short.ensures) c.loop-resource.invariant
    ]
