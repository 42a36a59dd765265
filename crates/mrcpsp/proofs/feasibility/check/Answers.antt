use Rattle.std.proofs.Common.{refl, subst}
use Rattle.mrcpsp.specs.Breach.{HasShape, TellsFirst}
use Rattle.mrcpsp.specs.Schedule.{IsFeasible}
use Rattle.mrcpsp.proofs.BreachLemmas.{feasible-from}
use Rattle.mrcpsp.proofs.feasibility.check.Goals as goal

-- nothing was found, so that the schedule is feasible
pub returns-clause-feasible : goal.returns-clause-feasible
returns-clause-feasible c =
    let p = c.args.project.now in let s = c.args.schedule.now in
    let shape : HasShape p s = c.if-not-has_shape.ensures.0 refl in
    let feasible : IsFeasible p s = feasible-from p s shape c.in_default.ensures.modes
    (subst (TellsFirst 3 p s) c.in_default-broken_precedence.is c.broken_precedence.ensures)
    (subst (TellsFirst 4 p s) c.in_default-overused_renewable.is c.overused_renewable.ensures)
    (subst (TellsFirst 5 p s) c.in_default-overused_nonrenewable.is c.overused_nonrenewable.ensures) in
    (λ _. (shape, feasible), λ _. refl)
