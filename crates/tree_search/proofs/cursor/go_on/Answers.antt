use Rattle.std.proofs.Common.{◌+◌, arith, sym}
use Rattle.tree_search.proofs.MachineLemmas.{from-skip}
use Rattle.tree_search.proofs.StackLemmas.{settled_found}
use Rattle.tree_search.proofs.cursor.go_on.Goals as goal

pub overflow_add-activity : goal.overflow_add-activity
overflow_add-activity c = omega (arith, c.mode_count-modes.ensures.inside)

pub returns-clause-kept : goal.returns-clause-kept
returns-clause-kept c k best at =
    let p = c.args.path.now.project in
    let placed = c.args.path.now.placed in
    let j = c.args.activity in
    c.settle.ensures.kept k best
    (settled_found p placed (record { activity = j; mode = c.args.mode }) (record { activity = j + 1; mode = 0 }) (sym (from-skip p placed j c.args.mode (λ _. omega (arith, c.mode_count-modes.ensures.exact, c.if-mode-modes.false)))) k best at)
