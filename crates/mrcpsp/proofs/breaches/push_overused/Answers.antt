use Rattle.std.proofs.Common.{◌≡◌, ◌+◌, [], ◌∷◌, ◌++◌, get_or, sym, ap, ◌∙◌, arith}
use Rattle.mrcpsp.specs.Breaches.{is_overused}
use Rattle.mrcpsp.specs.declared.breach.Breach.TheVariants.{Renewable}
use Rattle.mrcpsp.proofs.PassingLemmas.{element_told, element_passed}
use Rattle.mrcpsp.proofs.breaches.push_overused.Goals.{then-is_overused+in_ok-push, else-is_overused}
use Rattle.mrcpsp.proofs.breaches.push_overused.Goals as goal

pub loop-period-preserved : goal.loop-period-preserved
loop-period-preserved c =
    let test = is_overused c.args.fitting.now.project.now c.args.fitting.now.schedule.now c.args.resource in
    let old = c.args.told.now.items in
    let now = c.loop-period.told.items in
    let at = c.loop-period.period-index in
    let periods = c.args.periods.now in
    elim c.if-is_overused.branch [
      | then-is_overused+in_ok-push w ↦
          let more : c.if-is_overused.told.items ≡ now ++ Renewable (c.args.resource + 1) (get_or periods at 0) ∷ [] = ap (λ v. v.items) w.told-is ∙ w.in_ok-push.ensures.items in
          more ∙ element_told (Renewable (c.args.resource + 1)) test periods at old now (omega arith) (sym w.if-is_overused.ensures) c.loop-period.invariant
      | else-is_overused w ↦
          let same : c.if-is_overused.told.items ≡ now = ap (λ v. v.items) w.told-is in
          same ∙ element_passed (Renewable (c.args.resource + 1)) test periods at old now (omega arith) (sym w.if-is_overused.ensures) c.loop-period.invariant
    ]
