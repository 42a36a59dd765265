use Rattle.mrcpsp.specs.Breaches.{early_after}
use Rattle.mrcpsp.proofs.PassingLemmas.{list_told}
use Rattle.mrcpsp.proofs.breaches.push_all_early.Goals as goal

pub loop-before-preserved : goal.loop-before-preserved
loop-before-preserved c =
    list_told (early_after c.args.fitting.now.project.now c.args.fitting.now.schedule.now) c.loop-before.before c.args.told.now.items c.loop-before.told.items c.push_early.new.told.items
    c.loop-before.invariant c.in_ok-push_early.ensures
