use Rattle.std.proofs.Common.{◌≡◌, ◌+◌, ◌++◌, map, filter, ap, ◌∙◌}
use Rattle.mrcpsp.specs.Breaches.{overuse_of, is_overused}
use Rattle.mrcpsp.specs.declared.breach.Breach.TheVariants.{Renewable}
use Rattle.mrcpsp.proofs.PassingLemmas.{list_told}
use Rattle.mrcpsp.proofs.breaches.push_all_overused.Goals as goal

pub loop-resource-preserved : goal.loop-resource-preserved
loop-resource-preserved c =
    let p = c.args.fitting.now.project.now in
    let s = c.args.fitting.now.schedule.now in
    let r = c.loop-resource.resource in
    let now = c.loop-resource.told.items in
    let more : c.push_overused.new.told.items ≡ now ++ overuse_of p s r = c.in_ok-push_overused.ensures ∙ ap (λ l. now ++ map (Renewable (r + 1)) (filter (is_overused p s r) l)) c.requires.periods in
    list_told (overuse_of p s) r c.args.told.now.items now c.push_overused.new.told.items c.loop-resource.invariant more
