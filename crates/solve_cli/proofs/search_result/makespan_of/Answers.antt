use Rattle.std.proofs.Common.{◌≡◌, ◌∙◌, sym, ap, IsTrue, Some, refl}
use Rattle.std.specs.Option.{option_copied}
use Rattle.mrcpsp.specs.Project.{is_project}
use Rattle.strategy.specs.Outcome.{best_after}
use Rattle.std.proofs.lemmas.Bool.{iff_false}
use Rattle.solve_cli.proofs.SearchLemmas.{known_of}
use Rattle.solve_cli.proofs.search_result.makespan_of.Goals as goal

pub returns-in-Err : goal.returns-in-Err
returns-in-Err c =
    let plan = c.args.plan.now in
    let k = c.args.nodes in
    let kept : IsTrue (is_project plan.project) = c.activities-activities.ensures.project in
    let here : best_after plan k ≡ Some c.in-Some.schedule.now = sym c.requires ∙ ap option_copied c.in-Some.is in
    let fits = known_of _ (best_after plan k) c.in-Some.schedule.now here (c.each_best_is_feasible.ensures.shape plan kept k) in
    let feasible = known_of _ (best_after plan k) c.in-Some.schedule.now here (c.each_best_is_feasible.ensures.feasible plan kept k) in
    absurd (iff_false c.in-Err.ensures.feasible refl (fits, feasible))
