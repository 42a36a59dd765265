use Rattle.std.proofs.Common.{◌≡◌, ℕ, List, get_or, length, arith, ap, ◌∙◌}
use Rattle.std.proofs.lemmas.List.{length-replicate, get_or-replicate}
use Rattle.mrcpsp.specs.Limits.{IsProject}
use Rattle.mrcpsp.specs.Project.{renewables, size}
use Rattle.mrcpsp.proofs.LimitLemmas.{kept}
use Rattle.serial_sgs.proofs.OrderLemmas.{readied_first}
use Rattle.tree_search.specs.declared.path.Stage.{Stage}
use Rattle.tree_search.specs.Path.{no_stage, triangle}
use Rattle.tree_search.proofs.PathLemmas.{none_more, path_first}
use Rattle.tree_search.proofs.path.Path.of.Goals as goal

pub invariant_of-result : goal.invariant_of-result
unfolding size
invariant_of-result c =
    let p = c.args.project.now in
    let same : c.in_ok-project.project ≡ p = c.in_ok-project.ensures in
    let project : IsProject p = kept p c.activities-size.ensures.project in
    let count = ap length c.activities-size.ensures.all in
    let exact = rw c.deref.ensures.value at c.first_eligible.ensures.exact in
    let beyond = rw c.deref.ensures.value at c.first_eligible.ensures.others in
    let made = c.in_ok-begun.ensures in
    let stage : Stage = c.in_ok-begun.begun.stage in
    rw (same, c.in_ok-placed.ensures.items)
    (path_first p _ c.in_ok-begun.begun.table c.in_ok-before.before.items c.in_ok-after.after.items c.first_eligible.result stage c.in_ok-stages.stages.items c.in_ok-running.running.items c.in_ok-finishes.finishes.items c.in_ok-readies.readies.items project
    (omega (arith, c.in_ok-placed.ensures.exact, count))
    made.0
    c.in_ok-before.ensures
    c.in_ok-after.ensures
    (ap length c.in_ok-finishes.ensures ∙ length-replicate _ _ ∙ count)
    (λ j l. ap (λ (xs : List ℕ). get_or xs j 0) c.in_ok-finishes.ensures ∙ get_or-replicate _ j 4294967295 0 (omega (arith, count, l)))
    (readied_first p c.in_ok-readies.readies.items (ap length c.in_ok-readies.ensures ∙ length-replicate _ _ ∙ count) (λ j l. ap (λ (xs : List ℕ). get_or xs j 0) c.in_ok-readies.ensures ∙ get_or-replicate _ j 0 0 (omega (arith, count))))
    (omega (arith, ap length c.in_ok-stages.ensures ∙ length-replicate _ _, count))
    (omega (arith, c.in_ok-running.ensures.count, ap triangle count))
    (none_more 0 (renewables p) c.in_ok-running.running.items (omega arith) c.in_ok-running.ensures.none)
    (λ i l. ap (λ (xs : List Stage). get_or xs i no_stage) c.in_ok-stages.ensures ∙ get_or-replicate _ i stage no_stage (omega (arith, l, ap length c.in_ok-stages.ensures ∙ length-replicate _ _)))
    made.1
    (λ j l. exact j (omega (arith, l, c.in_ok-before.ensures.count)))
    (λ j past below. beyond j (omega (arith, past, c.in_ok-before.ensures.count)) below))

pub make_begun-requires-clause-project : goal.make_begun-requires-clause-project
make_begun-requires-clause-project c = kept c.args.project.now c.activities-size.ensures.project

pub first_eligible-requires : goal.first_eligible-requires
unfolding size
first_eligible-requires c =
    let p = c.args.project.now in
    let project : IsProject p = kept p c.activities-size.ensures.project in
    omega (arith, project.few, c.in_ok-before.ensures.count, ap length c.deref.ensures.value)

pub memory_of_lists-requires : goal.memory_of_lists-requires
unfolding size
memory_of_lists-requires c =
    let p = c.args.project.now in
    let project : IsProject p = kept p c.activities-size.ensures.project in
    omega (arith, project.few, ap length c.activities-size.ensures.all)
