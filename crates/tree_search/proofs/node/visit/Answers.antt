use Rattle.std.proofs.Common.{ℕ, ◌+◌, ◌-◌, ◌<◌, ◌≤◌, arith}
use Rattle.mrcpsp.specs.Project.{mode_count}
use Rattle.tree_search.specs.Tree.{IsCandidate, best_in}
use Rattle.tree_search.specs.declared.cursor.Cursor.{Cursor}
use Rattle.tree_search.proofs.NodeLemmas.{hopeless_pruned}
use Rattle.tree_search.proofs.StackLemmas.{nodes_kept, nodes_more, nodes_to}
use Rattle.tree_search.proofs.node.visit.Goals as goal

pub returns-in_default-clause-nodes : goal.returns-in_default-clause-nodes
returns-in_default-clause-nodes c k at =
    let p = c.args.path.now.project in
    let placed = c.args.path.now.placed in
    let top = c.args.top in
    let j = top.activity in
    let best = best_in c.args.incumbent.now in
    let end : ℕ = top.mode + c.min.result in
    let within : end ≤ mode_count p j = omega (arith, c.min.ensures, c.mode_count-modes.ensures.exact, c.requires.candidate.mode) in
    let project = c.ready.ensures.board.project in
    nodes_kept p placed placed c.go_on.new.path.placed _ _ _ best best (end - top.mode)
    (nodes_to p placed top best end c.requires.candidate.activity c.requires.candidate.eligible (omega arith) within (project.moded j c.requires.candidate.activity).1
    (λ m above below. hopeless_pruned p placed j m c.time_from-limit.result c.ready.result best project c.requires.candidate.activity (omega (arith, below, within)) c.ready.ensures.most c.ready.ensures.exact (c.time_from-limit.ensures p c.requires.incumbent) (c.in_default.ensures m above below)))
    c.go_on.ensures.kept k at

pub returns-clause-nodes : goal.returns-clause-nodes
returns-clause-nodes c k at =
    let p = c.args.path.now.project in
    let placed = c.args.path.now.placed in
    let top = c.args.top in
    let j = top.activity in
    let best = best_in c.args.incumbent.now in
    let mode : ℕ = c.in-Some.mode in
    let found = c.in-Some.ensures in
    let here : Cursor = record { activity = j; mode = mode } in
    let more : mode < mode_count p j = omega (arith, found.inside, c.min.ensures, c.mode_count-modes.ensures.exact, c.requires.candidate.mode) in
    let project = c.ready.ensures.board.project in
    let few = (project.moded j c.requires.candidate.activity).1 in
    let candidate : IsCandidate p placed here = record { activity = c.requires.candidate.activity; mode = more; few = omega (arith, more, few); eligible = c.requires.candidate.eligible } in
    nodes_more p placed placed c.examine-step.new.path.placed _ _ here best (best_in c.examine-step.new.incumbent) (mode - top.mode) candidate
    (nodes_to p placed top best mode c.requires.candidate.activity c.requires.candidate.eligible found.above (omega (arith, more)) few
    (λ m above below. hopeless_pruned p placed j m c.time_from-limit.result c.ready.result best project c.requires.candidate.activity (omega (arith, below, more)) c.ready.ensures.most c.ready.ensures.exact (c.time_from-limit.ensures p c.requires.incumbent) (found.hopeless m above below)))
    c.examine-step.ensures.node k at
