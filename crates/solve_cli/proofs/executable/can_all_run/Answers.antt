use Rattle.std.proofs.Common.{◌≡◌, arith, subst, sym, true}
use Rattle.mrcpsp.specs.Numbers.{all_below}
use Rattle.mrcpsp.specs.Project.{size}
use Rattle.solve_cli.specs.Improved.{can_run}
use Rattle.solve_cli.proofs.executable.can_all_run.Goals as goal

pub returns : goal.returns
returns c =
    let p = c.args.project.now in
    let all : c.loop-activity.activity ≡ size p = omega (arith, c.size-activity-end.ensures.exact, c.loop-activity-test.false) in
    sym (subst (λ n. all_below (can_run p) n ≡ true) all c.loop-activity.invariant)
