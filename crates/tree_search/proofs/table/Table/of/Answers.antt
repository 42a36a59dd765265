use Rattle.std.proofs.Common.{◌≡◌, ◌<◌, arith}
use Rattle.mrcpsp.specs.Project.{size}
use Rattle.tree_search.proofs.TableLemmas.{before_small, lines_more, lines_none}
use Rattle.tree_search.proofs.table.Table.of.Goals as goal

pub loop-activity-init : goal.loop-activity-init
loop-activity-init c = lines_none c.args.project.now _ _ c.in_ok-list.ensures.items c.in_ok-places.ensures.items

pub overflow_cast-first : goal.overflow_cast-first
overflow_cast-first c =
    let p = c.args.project.now in
    let j = c.loop-activity.activity in
    let inside : j < size p = omega (arith, c.loop-activity-test.true, c.size-activity-end.ensures p c.requires.tabled) in
    omega (arith, c.loop-activity.invariant.count, before_small p j c.requires.project (omega (arith, inside)), c.requires.project.few, c.len-first.ensures, c.loop-activity.list.ok.0)

pub overflow_cast-count : goal.overflow_cast-count
overflow_cast-count c =
    let p = c.args.project.now in
    let j = c.loop-activity.activity in
    let inside : j < size p = omega (arith, c.loop-activity-test.true, c.size-activity-end.ensures p c.requires.tabled) in
    omega (arith, c.count-count.ensures p c.requires.tabled inside, (c.requires.project.moded j inside).1)

pub loop-activity-preserved : goal.loop-activity-preserved
loop-activity-preserved c =
    let p = c.args.project.now in
    let j = c.loop-activity.activity in
    let inside : j < size p = omega (arith, c.loop-activity-test.true, c.size-activity-end.ensures p c.requires.tabled) in
    rw c.in_ok-push.ensures.items (lines_more p j c.loop-activity.list.items c.push_modes.new.list.items c.loop-activity.places.items (record { first = c.len-first.result; count = c.count-count.result }) c.loop-activity.invariant (omega (arith, c.len-first.ensures, c.loop-activity.list.ok.0)) (c.count-count.ensures p c.requires.tabled inside) c.in_ok-push_modes.ensures)

pub returns : goal.returns
returns c =
    let p = c.args.project.now in
    let whole : c.loop-activity.activity ≡ size p = omega (arith, c.loop-activity-test.false, c.loop-activity.auto.activity-end, c.size-activity-end.ensures p c.requires.tabled) in
    rw whole at c.loop-activity.invariant
