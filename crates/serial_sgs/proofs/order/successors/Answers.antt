use Rattle.std.proofs.Common.{◌≡◌, ◌-◌, ◌<◌, ℕ, map, arith, ap, ◌∙◌}
use Rattle.mrcpsp.specs.Project.{size, successors}
use Rattle.serial_sgs.proofs.OrderLemmas.{after_places, table_push}
use Rattle.serial_sgs.proofs.order.successors.Goals as goal

pub places_of-requires : goal.places_of-requires
places_of-requires c = λ k d l. omega (arith, (c.successors.ensures.later k d l).0)

pub loop-activity-preserved : goal.loop-activity-preserved
loop-activity-preserved c =
    let p = c.args.project.now in
    let j = c.loop-activity.activity in
    let list = c.in_ok-places_of.field-0.items in
    let is : list ≡ map (λ s. s - 1) (successors p j) = c.in_ok-places_of.ensures ∙ ap (map (λ (s : ℕ). s - 1)) c.successors.ensures.exact in
    let inside : j < size p = omega (arith, c.loop-activity-test.true, c.loop-activity.auto.activity-end, c.size-activity-end.ensures.exact) in
    rw (c.in_ok-push.ensures.items, c.from.ensures) (table_push p j c.loop-activity.table.items list c.loop-activity.invariant (rw is (after_places p j c.activities.ensures.project inside)))
