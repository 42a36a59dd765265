use Rattle.std.proofs.Common.{◌≡◌, ◌+◌, ◌<◌, ◌≤◌, true, arith, subst, sym, ap, ◌∙◌, get_or, set, length-set, drop, take, take_all, ◌++◌, ℕ, List, All, [], length}
use Rattle.std.specs.List.{slice_range}
use Rattle.std.proofs.lemmas.List.{get_or_default, take-append-le}
use Rattle.mrcpsp.specs.Project.{size, renewables, nonrenewables, mode_count}
use Rattle.mrcpsp.specs.Placed.{Placed, is_allowed, is_eligible, last_start}
use Rattle.mrcpsp.proofs.EarliestLemmas.{eligible-unplaced}
use Rattle.serial_sgs.specs.Board.{BoardData, IsInside}
use Rattle.serial_sgs.proofs.BoardLemmas.{count-lt-size, duration_small}
use Rattle.tree_search.specs.declared.path.Stage.{Stage}
use Rattle.tree_search.specs.Path.{HasEntered, IsBlank, no_stage}
use Rattle.tree_search.proofs.PathLemmas.{IsPlacing, blank_as, blank_push, entered_as, has_place, none_more, path_push, reached_in, stage_here}
use Rattle.tree_search.specs.Width.{HasWidth}
use Rattle.tree_search.proofs.WidthLemmas.{extra_none, request_none}
use Rattle.tree_search.proofs.path.Path.place.Goals as goal

pub overflow_add-finish : goal.overflow_add-finish
overflow_add-finish c =
    let b = c.self.inside in
    let known = rw (← c.self.view_is) at c.requires.activity in
    let in_mode = rw (← c.self.view_is) at c.requires.mode in
    omega (arith, c.requires.start, (c.row-row.ensures b.project c.self.invariant.tabled known in_mode).duration, duration_small b.project c.args.activity c.args.mode c.self.invariant.board.project known in_mode)

pub push_reserved-requires : goal.push_reserved-requires
push_reserved-requires c =
    let b : BoardData = record { project = c.self.inside.project; placed = c.self.inside.placed.items } in
    let known = rw (← c.self.view_is) at c.requires.activity in
    let may : is_eligible b.project b.placed c.args.activity ≡ true = rw (← c.self.view_is) at c.requires.eligible in
    let room = count-lt-size b c.args.activity c.self.invariant.board known (eligible-unplaced b.project b.placed c.args.activity may) in
    omega (arith, room, c.self.invariant.memory)

pub enlist-requires-clause-inside : goal.enlist-requires-clause-inside
enlist-requires-clause-inside c =
    let b = c.self.inside in
    let known = rw (← c.self.view_is) at c.requires.activity in
    let list : c.as_slice.result.now ≡ get_or b.after.items c.args.activity [] = c.as_slice.ensures ∙ c.index.ensures ∙ get_or_default b.after.items c.args.activity c.index.result.now [] (omega (arith, c.self.invariant.after.count, known)) in
    subst (λ (xs : List ℕ). All (λ s. s < length b.readies.items) xs) (sym list) (λ k d l. omega (arith, (c.self.invariant.after.each c.args.activity known).others.inside k d l, c.self.invariant.readied.count))

pub enlist-requires-clause-few : goal.enlist-requires-clause-few
enlist-requires-clause-few c = omega (arith, c.self.invariant.readied.count, c.self.invariant.board.project.few)

pub enlist-requires-clause-reached : goal.enlist-requires-clause-reached
enlist-requires-clause-reached c =
    let b = c.self.inside in
    let known : c.args.activity < size b.project = rw (← c.self.view_is) at c.requires.activity in
    let list : c.as_slice.result.now ≡ get_or b.after.items c.args.activity [] = c.as_slice.ensures ∙ c.index.ensures ∙ get_or_default b.after.items c.args.activity c.index.result.now [] (omega (arith, c.self.invariant.after.count, known)) in
    rw (list, c.deref.ensures.value) (reached_in b.project b.before.items b.after.items c.args.activity c.self.invariant.before c.self.invariant.after known)

pub enlist-requires-clause-named : goal.enlist-requires-clause-named
enlist-requires-clause-named c =
    let b = c.self.inside in
    rw (c.deref.ensures.value, c.deref-2.ensures.value) (λ j k l m. omega (arith, ((c.self.invariant.before.each j (omega (arith, l, c.self.invariant.before.count))).each k m).0, c.self.invariant.noted, length-set b.finishes.items c.args.activity (c.args.start + c.row-row.result.now.duration)))

pub run_in-end-requires : goal.run_in-end-requires
run_in-end-requires c =
    let b = c.self.inside in
    let p = b.project in
    let placed = b.placed.items in
    let was = c.self.invariant in
    let j = c.args.activity in
    let m = c.args.mode in
    let a : Placed = record { activity = j; mode = m; start = c.args.start } in
    let known : j < size p = rw (← c.self.view_is) at c.requires.activity in
    let in_mode : m < mode_count p j = rw (← c.self.view_is) at c.requires.mode in
    let may : is_eligible p placed j ≡ true = rw (← c.self.view_is) at c.requires.eligible in
    let fits : is_allowed p placed j m c.args.start ≡ true = rw (← c.self.view_is) at c.requires.allowed in
    let above : last_start placed ≤ c.args.start = rw (← c.self.view_is) at c.requires.last in
    let row = c.row-row.ensures p was.tabled known in_mode in
    let inside : IsInside p a = record { activity = known; mode = in_mode; start = c.requires.start } in
    let room = count-lt-size (record { project = p; placed = placed }) j was.board known (eligible-unplaced p placed j may) in
    let n : c.len-depth.result ≡ length placed = omega (arith, c.len-depth.ensures, b.placed.ok.0) in
    let stage : c.index-stage.result.now ≡ get_or b.stages.items (length placed) no_stage = c.index-stage.ensures ∙ get_or_default b.stages.items c.len-depth.result c.index-stage.result.now no_stage (omega (arith, was.staged.count, room, n)) ∙ ap (λ k. get_or b.stages.items k no_stage) n in
    let wide : HasWidth p c.args.width = rw (← c.self.view_is) at c.requires.width in
    let enough : renewables p ≤ c.lanes-lanes.result = omega (arith, c.lanes-lanes.ensures.exact, wide.renewable) in
    let it = rw (← stage) at (has_place p placed a b.running.items b.stages.items c.row-row.result.now (c.args.start + c.row-row.result.now.duration) was.board was.staged room inside row (omega (arith, row.duration)) above fits) in
    rw c.deref_mut.ensures.value (record {
      lanes = c.lanes-lanes.ensures.few;
      none = request_none p j m c.lanes-lanes.result c.row-row.result.now was.board.project known in_mode row enough;
      blank = none_more (renewables p) c.lanes-lanes.result b.running.items enough was.staged.none;
      beyond = it.beyond c.lanes-lanes.result enough;
      order = it.order;
      memory = it.memory;
      rising = it.rising;
      few = it.few;
      room = it.room;
    })

pub index_mut-requires-2 : goal.index_mut-requires-2
index_mut-requires-2 c =
    let b = c.self.inside in
    let p = b.project in
    let placed = b.placed.items in
    let known : c.args.activity < size p = rw (← c.self.view_is) at c.requires.activity in
    let may : is_eligible p placed c.args.activity ≡ true = rw (← c.self.view_is) at c.requires.eligible in
    let room = count-lt-size (record { project = p; placed = placed }) c.args.activity c.self.invariant.board known (eligible-unplaced p placed c.args.activity may) in
    omega (arith, room, c.self.invariant.staged.count, c.len-depth.ensures, b.placed.ok.0)

pub invariant_of-self : goal.invariant_of-self
invariant_of-self c =
    let b = c.self.inside in
    let p = b.project in
    let placed = b.placed.items in
    let was = c.self.invariant in
    let j = c.args.activity in
    let m = c.args.mode in
    let a : Placed = record { activity = j; mode = m; start = c.args.start } in
    let known : j < size p = rw (← c.self.view_is) at c.requires.activity in
    let in_mode : m < mode_count p j = rw (← c.self.view_is) at c.requires.mode in
    let may : is_eligible p placed j ≡ true = rw (← c.self.view_is) at c.requires.eligible in
    let fits : is_allowed p placed j m c.args.start ≡ true = rw (← c.self.view_is) at c.requires.allowed in
    let above : last_start placed ≤ c.args.start = rw (← c.self.view_is) at c.requires.last in
    let row = c.row-row.ensures p was.tabled known in_mode in
    let inside : IsInside p a = record { activity = known; mode = in_mode; start = c.requires.start } in
    let room = count-lt-size (record { project = p; placed = placed }) j was.board known (eligible-unplaced p placed j may) in
    let finish : ℕ = c.args.start + c.row-row.result.now.duration in
    let n : c.len-depth.result ≡ length placed = omega (arith, c.len-depth.ensures, b.placed.ok.0) in
    let stage : c.index-stage.result.now ≡ get_or b.stages.items (length placed) no_stage = c.index-stage.ensures ∙ get_or_default b.stages.items c.len-depth.result c.index-stage.result.now no_stage (omega (arith, was.staged.count, room, n)) ∙ ap (λ k. get_or b.stages.items k no_stage) n in
    let list : c.as_slice.result.now ≡ get_or b.after.items j [] = c.as_slice.ensures ∙ c.index.ensures ∙ get_or_default b.after.items j c.index.result.now [] (omega (arith, was.after.count, known)) in
    let made : Stage = record { slack = c.take_off.new.amounts; free = c.run_in-end.new.free; eligible = c.enlist.new.eligible; begin = c.index-stage.result.now.end; end = c.run_in-end.result; from = c.args.start } in
    let new : Stage = c.overwrite.new.self in
    let entered : HasEntered (get_or b.after.items j []) b.before.items (set b.finishes.items j finish) c.take_out.new.words b.readies.items c.enlist.new.eligible c.enlist.new.readies.items = rw (list, c.deref.ensures.value, c.deref-2.ensures.value) at c.enlist.ensures in
    let here = rw (← stage) at (stage_here p placed b.running.items b.stages.items was.staged) in
    let it = rw (← stage) at (has_place p placed a b.running.items b.stages.items c.row-row.result.now finish was.board was.staged room inside row (omega (arith, row.duration)) above fits) in
    let blank : IsBlank p made = blank_push p a b.before.items b.after.items _ (slice_range c.run_in-end.new.list c.index-stage.result.now.end c.run_in-end.result) c.index-stage.result.now made c.take_out.new.words (set b.finishes.items j finish) b.readies.items c.enlist.new.readies.items c.row-row.result.now finish was.board.project inside was.after row here.beyond here.others (rw c.short.ensures at c.take_out.ensures.others) entered c.take_off.ensures (λ r past l. it.beyond (renewables p) (omega arith) r c.args.start past l) (rw c.deref_mut.ensures.value at c.run_in-end.ensures.kept) in
    let wrote = c.overwrite.ensures in
    let steps : IsPlacing p a b.after.items b.before.items b.running.items c.run_in-end.new.list c.index-stage.result.now new c.take_out.new.words b.finishes.items b.readies.items c.enlist.new.readies.items c.row-row.result.now finish =
    record {
      ends_at = omega (arith, row.duration);
      own = row;
      gone = rw c.short.ensures at c.take_out.ensures.own;
      kept = rw c.short.ensures at c.take_out.ensures.others;
      entered = entered_as (get_or b.after.items j []) b.before.items (set b.finishes.items j finish) c.take_out.new.words b.readies.items c.enlist.new.eligible c.enlist.new.readies.items new.eligible wrote.eligible entered;
      slack = rw wrote.slack c.take_off.ensures;
      long = rw c.deref_mut.ensures.value at c.run_in-end.ensures.memory;
      same = rw c.deref_mut.ensures.value at c.run_in-end.ensures.same;
      begins = wrote.begin;
      behind = omega (arith, wrote.end, c.run_in-end.ensures.above);
      few = omega (arith, wrote.end, c.run_in-end.ensures.count);
      starts = wrote.from;
      rising = rw wrote.end c.run_in-end.ensures.rising;
      left = rw (wrote.free, wrote.end) (rw c.deref_mut.ensures.value at c.run_in-end.ensures.kept);
      blank = blank_as p made new wrote.slack wrote.free wrote.eligible blank;
      none = (rw c.deref_mut.ensures.value at c.run_in-end.ensures.none) (renewables p) (request_none p j m (renewables p) c.row-row.result.now was.board.project known in_mode row (omega arith)) was.staged.none;
    } in
    let whole : take b.running.len (c.run_in-end.new.list ++ drop (length c.run_in-end.new.list) b.running.items) ≡ c.run_in-end.new.list =
    take-append-le b.running.len c.run_in-end.new.list (drop (length c.run_in-end.new.list) b.running.items) (omega (arith, steps.long, b.running.ok.0)) ∙ take_all b.running.len c.run_in-end.new.list (omega (arith, steps.long, b.running.ok.0)) in
    rw (c.push_reserved.ensures.items, c.push_reserved.ensures.capacity, n, whole)
    (path_push p placed a _ b.table b.before.items b.after.items b.stages.items b.running.items c.run_in-end.new.list new c.take_out.new.words b.finishes.items b.readies.items c.enlist.new.readies.items c.row-row.result.now finish was inside may fits above room
    (subst (λ (s : Stage). IsPlacing p a b.after.items b.before.items b.running.items c.run_in-end.new.list s new c.take_out.new.words b.finishes.items b.readies.items c.enlist.new.readies.items c.row-row.result.now finish) stage steps))

pub take_off-requires-clause-none : goal.take_off-requires-clause-none
take_off-requires-clause-none c =
    let p = c.self.inside.project in
    let known : c.args.activity < size p = rw (← c.self.view_is) at c.requires.activity in
    let in_mode : c.args.mode < mode_count p c.args.activity = rw (← c.self.view_is) at c.requires.mode in
    let wide : HasWidth p c.args.width = rw (← c.self.view_is) at c.requires.width in
    let enough : nonrenewables p ≤ c.lanes-lanes.result = omega (arith, c.lanes-lanes.ensures.exact, wide.nonrenewable) in
    extra_none p c.args.activity c.args.mode c.lanes-lanes.result c.row-row.result.now c.self.invariant.board.project known in_mode (c.row-row.ensures p c.self.invariant.tabled known in_mode) enough

pub overwrite-requires : goal.overwrite-requires
overwrite-requires c =
    let b = c.self.inside in
    let p = b.project in
    let placed = b.placed.items in
    let was = c.self.invariant in
    let j = c.args.activity in
    let m = c.args.mode in
    let a : Placed = record { activity = j; mode = m; start = c.args.start } in
    let known : j < size p = rw (← c.self.view_is) at c.requires.activity in
    let in_mode : m < mode_count p j = rw (← c.self.view_is) at c.requires.mode in
    let may : is_eligible p placed j ≡ true = rw (← c.self.view_is) at c.requires.eligible in
    let fits : is_allowed p placed j m c.args.start ≡ true = rw (← c.self.view_is) at c.requires.allowed in
    let above : last_start placed ≤ c.args.start = rw (← c.self.view_is) at c.requires.last in
    let row = c.row-row.ensures p was.tabled known in_mode in
    let inside : IsInside p a = record { activity = known; mode = in_mode; start = c.requires.start } in
    let room = count-lt-size (record { project = p; placed = placed }) j was.board known (eligible-unplaced p placed j may) in
    let finish : ℕ = c.args.start + c.row-row.result.now.duration in
    let n : c.len-depth.result ≡ length placed = omega (arith, c.len-depth.ensures, b.placed.ok.0) in
    let stage : c.index-stage.result.now ≡ get_or b.stages.items (length placed) no_stage = c.index-stage.ensures ∙ get_or_default b.stages.items c.len-depth.result c.index-stage.result.now no_stage (omega (arith, was.staged.count, room, n)) ∙ ap (λ k. get_or b.stages.items k no_stage) n in
    let list : c.as_slice.result.now ≡ get_or b.after.items j [] = c.as_slice.ensures ∙ c.index.ensures ∙ get_or_default b.after.items j c.index.result.now [] (omega (arith, was.after.count, known)) in
    let entered : HasEntered (get_or b.after.items j []) b.before.items (set b.finishes.items j finish) c.take_out.new.words b.readies.items c.enlist.new.eligible c.enlist.new.readies.items = rw (list, c.deref.ensures.value, c.deref-2.ensures.value) at c.enlist.ensures in
    let made : Stage = record { slack = c.take_off.new.amounts; free = c.run_in-end.new.free; eligible = c.enlist.new.eligible; begin = c.index-stage.result.now.end; end = c.run_in-end.result; from = c.args.start } in
    let here = rw (← stage) at (stage_here p placed b.running.items b.stages.items was.staged) in
    let it = rw (← stage) at (has_place p placed a b.running.items b.stages.items c.row-row.result.now finish was.board was.staged room inside row (omega (arith, row.duration)) above fits) in
    let blank : IsBlank p made = blank_push p a b.before.items b.after.items _ (slice_range c.run_in-end.new.list c.index-stage.result.now.end c.run_in-end.result) c.index-stage.result.now made c.take_out.new.words (set b.finishes.items j finish) b.readies.items c.enlist.new.readies.items c.row-row.result.now finish was.board.project inside was.after row here.beyond here.others (rw c.short.ensures at c.take_out.ensures.others) entered c.take_off.ensures (λ r past l. it.beyond (renewables p) (omega arith) r c.args.start past l) (rw c.deref_mut.ensures.value at c.run_in-end.ensures.kept) in
    let wide : HasWidth p c.args.width = rw (← c.self.view_is) at c.requires.width in
    let later : c.index_mut-2.result.now ≡ get_or b.stages.items (c.len-depth.result + 1) no_stage = c.index_mut-2.ensures.value ∙ get_or_default b.stages.items (c.len-depth.result + 1) c.index_mut-2.result.now no_stage (omega (arith, was.staged.count, room, n)) in
    (p, wide, rw later (was.staged.blank (c.len-depth.result + 1) (omega (arith, was.staged.count, room, n))), blank)
