use Rattle.std.proofs.Common.{rules, ◌<◌, arith}
use Rattle.serial_pass.proofs.PointLemmas.{walk_on, walk_over}
use Rattle.serial_pass.proofs.points.first_point.Goals as goal

pub loop-at-preserved-then-not-fits : goal.loop-at-preserved-then-not-fits
loop-at-preserved-then-not-fits c =
    let (e, inside, early, after, fits_from) = c.requires.soon in
    let was = c.loop-at.invariant in
    let some : 0 < c.args.duration = omega (arith, was.order, was.ends, c.loop-at-test.true) in
    walk_over c.args.points.now c.args.request.now c.args.duration c.args.ready c.loop-at.start c.loop-at.at c.loop-at.finish e c.requires.short c.requires.linked inside early (fits_from some) was c.loop-at-test.true
    (λ fit. absurd (search rules))

pub overflow_add-finish-then-not-fits : goal.overflow_add-finish-then-not-fits
overflow_add-finish-then-not-fits c = omega (arith, (loop-at-preserved-then-not-fits c).early, c.requires.short)

pub loop-at-preserved : goal.loop-at-preserved
loop-at-preserved c =
    walk_on c.args.points.now c.args.request.now c.args.duration c.args.ready c.loop-at.start c.loop-at.at c.loop-at.finish c.requires.short c.requires.linked c.loop-at.invariant c.loop-at-test.true
    (search rules)
