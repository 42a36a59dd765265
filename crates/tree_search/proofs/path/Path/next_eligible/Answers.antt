use Rattle.std.proofs.Common.{◌≡◌, MatchOption, arith, ap, subst, ◌∙◌, get_or, length}
use Rattle.std.proofs.lemmas.List.{get_or_default}
use Rattle.mrcpsp.specs.Project.{size}
use Rattle.serial_sgs.specs.Board.{BoardData, IsNextEligible, NoneEligible}
use Rattle.serial_sgs.proofs.BoardLemmas.{count-le-size}
use Rattle.tree_search.specs.Path.{no_stage}
use Rattle.tree_search.proofs.PathLemmas.{next_is, stage_here}
use Rattle.tree_search.proofs.path.Path.next_eligible.Goals as goal

pub returns : goal.returns
returns c =
    let b = c.self.inside in
    let p = b.project in
    let placed = b.placed.items in
    let was = c.self.invariant in
    let few = count-le-size (record { project = p; placed = placed }) was.board in
    let n : c.len.result ≡ length placed = omega (arith, c.len.ensures, b.placed.ok.0) in
    let stage : c.index.result.now ≡ get_or b.stages.items (length placed) no_stage = c.index.ensures ∙ get_or_default b.stages.items c.len.result c.index.result.now no_stage (omega (arith, was.staged.count, few, n)) ∙ ap (λ k. get_or b.stages.items k no_stage) n in
    let ends : c.len-2.result ≡ size p = omega (arith, c.len-2.ensures, b.finishes.ok.0, was.noted) in
    let here = stage_here p placed b.running.items b.stages.items was.staged in
    subst (λ (x : BoardData). MatchOption c.next_in.result (NoneEligible x.project x.placed c.args.from) (IsNextEligible x.project x.placed c.args.from)) c.self.view_is
    (next_is p placed c.index.result.now.eligible c.args.from c.next_in.result (rw stage here.eligible) (rw stage here.others) (rw (c.short.ensures, c.short-2.ensures ∙ ends) at c.next_in.ensures))
