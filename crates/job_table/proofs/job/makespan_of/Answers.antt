use Rattle.std.proofs.Common.{◌≡◌, Some, arith}
use Rattle.strategy.specs.Outcome.{best_after}
use Rattle.job_table.proofs.JobLemmas.{best_shaped, best_moded}
use Rattle.job_table.proofs.job.makespan_of.Goals as goal

pub makespan-requires-clause-shape : goal.makespan-requires-clause-shape
makespan-requires-clause-shape c =
    let known : Some c.in-Some.schedule.now ≡ best_after c.args.plan.now c.args.nodes = grind (arith, c.in-Some.is, c.requires.best) in
    best_shaped c.args.plan.now c.args.nodes c.in-Some.schedule.now c.requires.planned known

pub makespan-requires-clause-modes : goal.makespan-requires-clause-modes
makespan-requires-clause-modes c =
    let known : Some c.in-Some.schedule.now ≡ best_after c.args.plan.now c.args.nodes = grind (arith, c.in-Some.is, c.requires.best) in
    best_moded c.args.plan.now c.args.nodes c.in-Some.schedule.now c.requires.planned known
