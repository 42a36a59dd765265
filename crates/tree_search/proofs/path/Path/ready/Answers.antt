use Rattle.std.proofs.Common.{◌≡◌, ℕ, ◌<◌, ◌≤◌, max, true, nat_le, get_or, length, arith, ap, ◌∙◌}
use Rattle.std.proofs.lemmas.List.{get_or_default}
use Rattle.mrcpsp.specs.Project.{size}
use Rattle.mrcpsp.specs.Placed.{are_ready, is_eligible, last_start}
use Rattle.serial_sgs.proofs.BoardLemmas.{count-le-size}
use Rattle.serial_sgs.proofs.OrderLemmas.{eligible_misses, ready_later, ready_small}
use Rattle.tree_search.specs.Path.{no_stage}
use Rattle.tree_search.proofs.PathLemmas.{last_start_small, stage_here}
use Rattle.tree_search.proofs.path.Path.ready.Goals as goal

-- what is read: the last start, and the activity's ready time
pub returns : goal.returns
returns c =
    let b = c.self.inside in
    let p = b.project in
    let placed = b.placed.items in
    let was = c.self.invariant in
    let j = c.args.activity in
    let known : j < size p = rw (← c.self.view_is) at c.requires.activity in
    let may : is_eligible p placed j ≡ true = rw (← c.self.view_is) at c.requires.eligible in
    let few = count-le-size (record { project = p; placed = placed }) was.board in
    let n : c.len.result ≡ length placed = omega (arith, c.len.ensures, b.placed.ok.0) in
    let stage : c.index.result.now ≡ get_or b.stages.items (length placed) no_stage = c.index.ensures ∙ get_or_default b.stages.items c.len.result c.index.result.now no_stage (omega (arith, was.staged.count, few, n)) ∙ ap (λ k. get_or b.stages.items k no_stage) n in
    let here = rw (← stage) at (stage_here p placed b.running.items b.stages.items was.staged) in
    let entry : c.index-2.result.now ≡ get_or b.readies.items j 0 = c.index-2.ensures ∙ get_or_default b.readies.items j c.index-2.result.now 0 (omega (arith, was.readied.count)) in
    let from : ℕ = last_start placed in
    let later : c.max.result ≡ max from (get_or b.readies.items j 0) = omega (arith, c.max.ensures, entry, here.last) in
    let exact : (t : ℕ) → from ≤ t → are_ready p placed j t ≡ nat_le c.max.result t = ready_later p placed j from (get_or b.readies.items j 0) c.max.result later (λ t. was.readied.each j t known (eligible_misses p placed j may)) in
    rw (← c.self.view_is) (record {
      above = omega (arith, later);
      exact = exact;
      board = was.board;
      most = omega (arith, later, last_start_small p placed was.board, ready_small p placed j b.readies.items was.board was.readied known (eligible_misses p placed j may));
    })
