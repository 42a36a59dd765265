use Rattle.std.proofs.Common.{◌≡◌, ◌+◌, ◌-◌, arith, refl}
use Rattle.mrcpsp.specs.Schedule.{IsFeasible, makespan}
use Rattle.schedule_clauses.proofs.EncodingLemmas.{optimal}
use Rattle.schedule_clauses.proofs.certificate.certify.Goals as goal

pub returns-clause-optimal : goal.returns-clause-optimal
returns-clause-optimal c =
    let f : IsFeasible c.args.project.now c.args.schedule.now = (c.in-Ok.ensures.feasible.0 refl).1 in
    let m : c.in-Ok.makespan ≡ makespan c.args.project.now c.args.schedule.now = c.in-Ok.ensures.makespan in
    let e : makespan c.args.project.now c.args.schedule.now ≡ (c.in-Ok.makespan - 1) + 1 = omega arith in
    optimal c.args.project.now c.args.schedule.now (c.in-Ok.makespan - 1) f e c.in_ok-certify_bound.ensures.exceeds
