use Rattle.std.proofs.Common.{◌≡◌, ◌+◌, ◌<◌, ◌≤◌, true, get_or, length, arith, ap, ◌∙◌, ⊎_elim}
use Rattle.std.proofs.lemmas.Bool.{cases_lt}
use Rattle.std.proofs.lemmas.List.{get_or_default}
use Rattle.mrcpsp.specs.Project.{size, nonrenewables, mode_count}
use Rattle.mrcpsp.specs.Placed.{is_eligible}
use Rattle.mrcpsp.proofs.EarliestLemmas.{eligible-unplaced}
use Rattle.serial_sgs.proofs.BoardLemmas.{count-le-size}
use Rattle.tree_search.specs.Path.{no_stage}
use Rattle.tree_search.proofs.PathLemmas.{covered_at, hopeless_at, stage_here}
use Rattle.tree_search.specs.Table.{no_row}
use Rattle.tree_search.specs.Width.{HasWidth}
use Rattle.tree_search.proofs.WidthLemmas.{extra_none}
use Rattle.tree_search.proofs.path.Path.first_hopeful.Goals as goal

pub loop-rows-init : goal.loop-rows-init
loop-rows-init c =
    let b = c.self.inside in
    let p = b.project in
    let j = c.args.activity in
    let known : j < size p = rw (← c.self.view_is) at c.requires.activity in
    let within : c.args.end ≤ mode_count p j = rw (← c.self.view_is) at c.requires.within in
    let rows = c.modes-rows.ensures p c.self.invariant.tabled known (omega (arith, c.requires.order)) within in
    record { inside = omega (arith, rows.count, c.requires.order); hopeless = λ m above below. absurd (omega arith) }

pub loop-rows-preserved : goal.loop-rows-preserved
loop-rows-preserved c =
    let b = c.self.inside in
    let p = b.project in
    let placed = b.placed.items in
    let was = c.self.invariant in
    let j = c.args.activity in
    let known : j < size p = rw (← c.self.view_is) at c.requires.activity in
    let within : c.args.end ≤ mode_count p j = rw (← c.self.view_is) at c.requires.within in
    let may : is_eligible p placed j ≡ true = rw (← c.self.view_is) at c.requires.eligible in
    let few = count-le-size (record { project = p; placed = placed }) was.board in
    let n : c.len.result ≡ length placed = omega (arith, c.len.ensures, b.placed.ok.0) in
    let stage : c.index.result.now ≡ get_or b.stages.items (length placed) no_stage = c.index.ensures ∙ get_or_default b.stages.items c.len.result c.index.result.now no_stage (omega (arith, was.staged.count, few, n)) ∙ ap (λ k. get_or b.stages.items k no_stage) n in
    let here = rw (← stage) at (stage_here p placed b.running.items b.stages.items was.staged) in
    let rows = c.modes-rows.ensures p was.tabled known (omega (arith, c.requires.order)) within in
    let at = c.loop-rows.at in
    let one = hopeless_at p placed j (c.args.from + at) c.index.result.now.slack c.modes-rows.result.now at _ c.args.limit was.board known (omega (arith, rows.count, c.loop-rows.invariant.inside, within)) (eligible-unplaced p placed j may) here.slack c.loop-rows.invariant.inside (rows.each at c.loop-rows.invariant.inside) (c.is_hopeless.ensures.hopeless c.if-not-is_hopeless.false) in
    record {
      inside = omega (arith, c.loop-rows.invariant.inside, c.if-at-rows.false);
      hopeless = λ m above below.
          ⊎_elim
          (λ (before : m < c.args.from + at). c.loop-rows.invariant.hopeless m above before)
          (λ (here : c.args.from + at ≤ m). let same : m ≡ c.args.from + at = omega (arith, here, below) in rw (same, ← c.self.view_is) one)
          (cases_lt m (c.args.from + at));
    }

pub returns-then-not-is_hopeless : goal.returns-then-not-is_hopeless
returns-then-not-is_hopeless c =
    let b = c.self.inside in
    let p = b.project in
    let placed = b.placed.items in
    let was = c.self.invariant in
    let j = c.args.activity in
    let known : j < size p = rw (← c.self.view_is) at c.requires.activity in
    let within : c.args.end ≤ mode_count p j = rw (← c.self.view_is) at c.requires.within in
    let may : is_eligible p placed j ≡ true = rw (← c.self.view_is) at c.requires.eligible in
    let few = count-le-size (record { project = p; placed = placed }) was.board in
    let n : c.len.result ≡ length placed = omega (arith, c.len.ensures, b.placed.ok.0) in
    let stage : c.index.result.now ≡ get_or b.stages.items (length placed) no_stage = c.index.ensures ∙ get_or_default b.stages.items c.len.result c.index.result.now no_stage (omega (arith, was.staged.count, few, n)) ∙ ap (λ k. get_or b.stages.items k no_stage) n in
    let here = rw (← stage) at (stage_here p placed b.running.items b.stages.items was.staged) in
    let rows = c.modes-rows.ensures p was.tabled known (omega (arith, c.requires.order)) within in
    let at = c.loop-rows.at in
    record {
      above = omega arith;
      inside = omega (arith, rows.count, c.loop-rows.invariant.inside);
      hopeless = c.loop-rows.invariant.hopeless;
      allowed = rw (← c.self.view_is) (covered_at p placed j (c.args.from + at) c.index.result.now.slack c.modes-rows.result.now at _ c.args.limit was.board known (omega (arith, within, rows.count, c.loop-rows.invariant.inside)) (eligible-unplaced p placed j may) here.slack c.loop-rows.invariant.inside (rows.each at c.loop-rows.invariant.inside) (omega (arith, c.ranges.limit.fits)) (c.is_hopeless.ensures.short c.if-not-is_hopeless.true) (c.is_hopeless.ensures.covered c.if-not-is_hopeless.true));
    }

pub returns-then-at-rows : goal.returns-then-at-rows
returns-then-at-rows c m above below =
    let b = c.self.inside in
    let p = b.project in
    let placed = b.placed.items in
    let was = c.self.invariant in
    let j = c.args.activity in
    let known : j < size p = rw (← c.self.view_is) at c.requires.activity in
    let within : c.args.end ≤ mode_count p j = rw (← c.self.view_is) at c.requires.within in
    let may : is_eligible p placed j ≡ true = rw (← c.self.view_is) at c.requires.eligible in
    let few = count-le-size (record { project = p; placed = placed }) was.board in
    let n : c.len.result ≡ length placed = omega (arith, c.len.ensures, b.placed.ok.0) in
    let stage : c.index.result.now ≡ get_or b.stages.items (length placed) no_stage = c.index.ensures ∙ get_or_default b.stages.items c.len.result c.index.result.now no_stage (omega (arith, was.staged.count, few, n)) ∙ ap (λ k. get_or b.stages.items k no_stage) n in
    let here = rw (← stage) at (stage_here p placed b.running.items b.stages.items was.staged) in
    let rows = c.modes-rows.ensures p was.tabled known (omega (arith, c.requires.order)) within in
    let at = c.loop-rows.at in
    let one = hopeless_at p placed j (c.args.from + at) c.index.result.now.slack c.modes-rows.result.now at _ c.args.limit was.board known (omega (arith, rows.count, c.loop-rows.invariant.inside, within)) (eligible-unplaced p placed j may) here.slack c.loop-rows.invariant.inside (rows.each at c.loop-rows.invariant.inside) (c.is_hopeless.ensures.hopeless c.if-not-is_hopeless.false) in
    ⊎_elim
    (λ (before : m < c.args.from + at). c.loop-rows.invariant.hopeless m above before)
    (λ (here : c.args.from + at ≤ m). let same : m ≡ c.args.from + at = omega (arith, here, below, rows.count, c.if-at-rows.true) in rw (same, ← c.self.view_is) one)
    (cases_lt m (c.args.from + at))

pub is_hopeless-requires-clause-none : goal.is_hopeless-requires-clause-none
is_hopeless-requires-clause-none c =
    let p = c.self.inside.project in
    let j = c.args.activity in
    let known : j < size p = rw (← c.self.view_is) at c.requires.activity in
    let within : c.args.end ≤ mode_count p j = rw (← c.self.view_is) at c.requires.within in
    let wide : HasWidth p c.args.width = rw (← c.self.view_is) at c.requires.width in
    let enough : nonrenewables p ≤ c.lanes.result = omega (arith, c.lanes.ensures.exact, wide.nonrenewable) in
    let rows = c.modes-rows.ensures p c.self.invariant.tabled known (omega (arith, c.requires.order)) within in
    let at = c.loop-rows.at in
    extra_none p j (c.args.from + at) c.lanes.result (get_or c.modes-rows.result.now at no_row) c.self.invariant.board.project known (omega (arith, rows.count, c.loop-rows.invariant.inside, within)) (rows.each at c.loop-rows.invariant.inside) enough
