use Rattle.std.proofs.Common.{◌≡◌, ℕ, ◌<◌, ◌≤◌, true, nat_le, get_or, length, arith, ap, ◌∙◌}
use Rattle.std.proofs.lemmas.List.{get_or_default}
use Rattle.mrcpsp.specs.Project.{size, renewables, mode_count}
use Rattle.mrcpsp.specs.Placed.{are_ready, earliest, is_executable, last_start}
use Rattle.mrcpsp.proofs.EarliestLemmas.{earliest-allowed, earliest-ge}
use Rattle.mrcpsp.proofs.BoundLemmas.{earliest-le-latest}
use Rattle.serial_sgs.proofs.BoardLemmas.{count-le-size}
use Rattle.serial_sgs.proofs.RowLemmas.{capacity_small, request_small}
use Rattle.tree_search.specs.Path.{no_stage}
use Rattle.tree_search.proofs.PathLemmas.{stage_here, triangle_rises, triangle_small}
use Rattle.tree_search.proofs.PlacedLemmas.{asks_most, front_earliest, front_enough, front_most}
use Rattle.tree_search.specs.Width.{HasWidth}
use Rattle.tree_search.proofs.WidthLemmas.{left_none, request_none}
use Rattle.tree_search.proofs.path.Path.earliest_last.Goals as goal

pub row-row-requires : goal.row-row-requires
row-row-requires c =
    let b = c.self.inside in
    (b.project, c.self.invariant.tabled, rw (← c.self.view_is) at c.requires.activity, rw (← c.self.view_is) at c.requires.mode, c.self.invariant.board.project)

pub earliest-requires : goal.earliest-requires
earliest-requires c =
    let b = c.self.inside in
    let p = b.project in
    let placed = b.placed.items in
    let was = c.self.invariant in
    let j = c.args.activity in
    let m = c.args.mode in
    let known : j < size p = rw (← c.self.view_is) at c.requires.activity in
    let moded : m < mode_count p j = rw (← c.self.view_is) at c.requires.mode in
    let can : is_executable p j m ≡ true = rw (← c.self.view_is) at c.requires.executable in
    let row = c.row-row.ensures p was.tabled known moded in
    let few = count-le-size (record { project = p; placed = placed }) was.board in
    let n : c.len.result ≡ length placed = omega (arith, c.len.ensures, b.placed.ok.0) in
    let stage : c.index-stage.result.now ≡ get_or b.stages.items (length placed) no_stage = c.index-stage.ensures ∙ get_or_default b.stages.items c.len.result c.index-stage.result.now no_stage (omega (arith, was.staged.count, few, n)) ∙ ap (λ k. get_or b.stages.items k no_stage) n in
    let here = rw (← stage) at (stage_here p placed b.running.items b.stages.items was.staged) in
    let front = here.front in
    let from : ℕ = last_start placed in
    let e : ℕ = earliest p placed j m from in
    let wide : HasWidth p c.args.width = rw (← c.self.view_is) at c.requires.width in
    let enough : renewables p ≤ c.lanes.result = omega (arith, c.lanes.ensures.exact, wide.renewable) in
    rw c.deref.ensures.value (record {
      lanes = c.lanes.ensures.few;
      none = request_none p j m c.lanes.result c.row-row.result.now was.board.project known moded row enough;
      beyond = left_none p placed from c.lanes.result c.index-stage.result.now.free _ front enough;
      rising = front.rising;
      small = λ r among. omega (arith, asks_most p j m c.row-row.result.now.request row.request r among, request_small p j m r was.board.project known moded);
      few = λ r t among. omega (arith, front_most p placed from c.index-stage.result.now.free _ front r t among, capacity_small p r was.board.project);
      enough = (e, front_enough p placed j m from c.index-stage.result.now.free _ c.row-row.result.now.request was.board.project known moded front row.request e (earliest-ge p placed j m from) (earliest-allowed p placed j m from can));
    })

-- the first room is the earliest start
pub returns-clause-exact : goal.returns-clause-exact
returns-clause-exact c =
    let b = c.self.inside in
    let p = b.project in
    let placed = b.placed.items in
    let was = c.self.invariant in
    let j = c.args.activity in
    let m = c.args.mode in
    let known : j < size p = rw (← c.self.view_is) at c.requires.activity in
    let moded : m < mode_count p j = rw (← c.self.view_is) at c.requires.mode in
    let can : is_executable p j m ≡ true = rw (← c.self.view_is) at c.requires.executable in
    let row = c.row-row.ensures p was.tabled known moded in
    let few = count-le-size (record { project = p; placed = placed }) was.board in
    let n : c.len.result ≡ length placed = omega (arith, c.len.ensures, b.placed.ok.0) in
    let stage : c.index-stage.result.now ≡ get_or b.stages.items (length placed) no_stage = c.index-stage.ensures ∙ get_or_default b.stages.items c.len.result c.index-stage.result.now no_stage (omega (arith, was.staged.count, few, n)) ∙ ap (λ k. get_or b.stages.items k no_stage) n in
    let here = rw (← stage) at (stage_here p placed b.running.items b.stages.items was.staged) in
    let from : ℕ = last_start placed in
    let ready : ℕ = c.ready-ready.result in
    let above : from ≤ ready = rw (← c.self.view_is) at c.ready-ready.ensures.above in
    let exact : (t : ℕ) → from ≤ t → are_ready p placed j t ≡ nat_le ready t = rw (← c.self.view_is) at c.ready-ready.ensures.exact in
    rw (← c.self.view_is) (front_earliest p placed j m from ready c.earliest.result c.index-stage.result.now.free _ c.row-row.result.now.request was.board.project known moded here.front row.request can above exact (rw c.deref.ensures.value at c.earliest.ensures))

pub returns-clause-allowed : goal.returns-clause-allowed
returns-clause-allowed c = rw (returns-clause-exact c) (earliest-allowed c.args.self.now.project c.args.self.now.placed c.args.activity c.args.mode (last_start c.args.self.now.placed) c.requires.executable)

pub returns-clause-within : goal.returns-clause-within
returns-clause-within c = rw (returns-clause-exact c) (earliest-le-latest c.args.self.now.project c.args.self.now.placed c.args.activity c.args.mode (last_start c.args.self.now.placed) c.requires.executable)

pub offset_bounds-deref-stage : goal.offset_bounds-deref-stage
offset_bounds-deref-stage c =
    let b = c.self.inside in
    let p = b.project in
    let placed = b.placed.items in
    let was = c.self.invariant in
    let few = count-le-size (record { project = p; placed = placed }) was.board in
    let n : c.len.result ≡ length placed = omega (arith, c.len.ensures, b.placed.ok.0) in
    let stage : c.index-stage.result.now ≡ get_or b.stages.items (length placed) no_stage = c.index-stage.ensures ∙ get_or_default b.stages.items c.len.result c.index-stage.result.now no_stage (omega (arith, was.staged.count, few, n)) ∙ ap (λ k. get_or b.stages.items k no_stage) n in
    let here = rw (← stage) at (stage_here p placed b.running.items b.stages.items was.staged) in
    omega (arith, here.order, here.within, triangle_rises (length placed) (size p) few, triangle_small (size p) was.board.project.few)

pub slice_bounds-earliest-count : goal.slice_bounds-earliest-count
slice_bounds-earliest-count c =
    let b = c.self.inside in
    let p = b.project in
    let placed = b.placed.items in
    let was = c.self.invariant in
    let few = count-le-size (record { project = p; placed = placed }) was.board in
    let n : c.len.result ≡ length placed = omega (arith, c.len.ensures, b.placed.ok.0) in
    let stage : c.index-stage.result.now ≡ get_or b.stages.items (length placed) no_stage = c.index-stage.ensures ∙ get_or_default b.stages.items c.len.result c.index-stage.result.now no_stage (omega (arith, was.staged.count, few, n)) ∙ ap (λ k. get_or b.stages.items k no_stage) n in
    let here = rw (← stage) at (stage_here p placed b.running.items b.stages.items was.staged) in
    omega (arith, here.order)

pub slice_bounds-earliest-end : goal.slice_bounds-earliest-end
slice_bounds-earliest-end c =
    let b = c.self.inside in
    let p = b.project in
    let placed = b.placed.items in
    let was = c.self.invariant in
    let few = count-le-size (record { project = p; placed = placed }) was.board in
    let n : c.len.result ≡ length placed = omega (arith, c.len.ensures, b.placed.ok.0) in
    let stage : c.index-stage.result.now ≡ get_or b.stages.items (length placed) no_stage = c.index-stage.ensures ∙ get_or_default b.stages.items c.len.result c.index-stage.result.now no_stage (omega (arith, was.staged.count, few, n)) ∙ ap (λ k. get_or b.stages.items k no_stage) n in
    let here = rw (← stage) at (stage_here p placed b.running.items b.stages.items was.staged) in
    omega (arith, here.within, triangle_rises (length placed) (size p) few, was.staged.room)
