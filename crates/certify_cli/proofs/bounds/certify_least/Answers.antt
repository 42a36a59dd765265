use Rattle.std.proofs.Common.{◌≤◌, rules, arith, inl, inr}
use Rattle.mrcpsp.specs.Schedule.{makespan}
use Rattle.certify_cli.proofs.bounds.certify_least.Goals as goal

pub returns-clause-ok : goal.returns-clause-ok
returns-clause-ok c =
    inl (record {
      project = c.in_ok-project.project;
      periods = c.in-Ok.periods;
      read = search rules;
      least = search rules;
      chain = search rules;
      alone = search rules;
      within = search rules;
      tells = search rules;
    })

pub returns-then-periods-horizon-clause-ok : goal.returns-then-periods-horizon-clause-ok
returns-then-periods-horizon-clause-ok c =
    inr (
      c.if-steps-gt0.true,
      record {
        project = c.in_ok-project.project;
        read = search rules;
        infeasible = c.fitting_modes_decide.ensures.beyond c.in_ok-project.project c.horizon.ensures.project
            (λ s f. let l : c.in-Ok.periods ≤ makespan c.in_ok-project.project s = c.in-Ok.ensures.least s f in omega arith);
        tells = search rules;
      },
    )
