use Rattle.std.proofs.Common.{◌≡◌, length, arith, ◌∙◌}
use Rattle.mrcpsp.specs.Project.{mode_count}
use Rattle.schedule_clauses.proofs.FormLemmas.{valid-modes}
use Rattle.schedule_clauses.proofs.forms.modes.modes.Goals as goal

pub add-requires : goal.add-requires
add-requires c =
    rw c.deref.ensures.value
    (valid-modes c.args.clauses.now.project c.args.clauses.now.limit c.args.activity c.loop-mode.terms.items c.requires.activity
    (let e : length c.loop-mode.terms.items ≡ c.loop-mode.mode = c.loop-mode.invariant.long in
    let f : c.loop-mode.mode ≡ mode_count c.scope-scope.result.project.now c.args.activity = omega arith in e ∙ rw c.scope-scope.ensures.project at f)
    c.loop-mode.invariant.each)
