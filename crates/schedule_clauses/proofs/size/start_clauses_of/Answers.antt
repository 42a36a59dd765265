use Rattle.std.proofs.Common.{◌≡◌, ◌+◌, ◌*◌, arith, ap, ◌∙◌}
use Rattle.mrcpsp.specs.Numbers.{sum_below}
use Rattle.mrcpsp.specs.Project.{size, mode_count}
use Rattle.schedule_clauses.specs.Size.{starts_of, modes_before, start_clauses}
use Rattle.schedule_clauses.proofs.size.start_clauses_of.Goals as goal

pub returns : goal.returns
unfolding start_clauses
returns c =
    let p = c.args.project.now in
    let all : c.loop-activity.activity ≡ size p = omega (arith, c.size-activity-end.ensures.exact, c.loop-activity-test.false) in
    c.loop-activity.invariant.so_far ∙ ap (sum_below (λ j. starts_of p c.args.bound j * (mode_count p j + modes_before p j))) all
