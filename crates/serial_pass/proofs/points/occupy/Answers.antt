use Rattle.std.proofs.Common.{◌≡◌, ℕ, ◌+◌, ◌<◌, ◌≤◌, List, get_or, length, arith, refl, ap, ◌∙◌, ⊎_elim}
use Rattle.std.proofs.lemmas.List.{get_or_default}
use Rattle.serial_pass.specs.declared.points.FreePoint.{FreePoint}
use Rattle.serial_pass.specs.Points.{IsTaken, free_at, next_at, no_point, time_at}
use Rattle.serial_pass.proofs.PointLemmas.{HasPlace, IsPut, put_is, put_left, put_linked, put_times, taken_left, taken_linked}
use Rattle.serial_pass.proofs.points.occupy.Goals as goal

pub returns-then-index-finish-clause-linked : goal.returns-then-index-finish-clause-linked
returns-then-index-finish-clause-linked c = taken_linked _ _ _ _ _ c.requires.linked c.take-before.ensures.taken

begun : (points : List FreePoint) (start : ℕ) (point : FreePoint) → start < length points → point ≡ get_or points start point → point.time ≡ time_at points start
begun points start point inside is = ap (λ (x : FreePoint). x.time) (is ∙ get_or_default points start point no_point inside)

pub returns-then-index-finish-clause-finish : goal.returns-then-index-finish-clause-finish
returns-then-index-finish-clause-finish c =
    let old : List FreePoint = c.args.points.now.items in
    let new : List FreePoint = c.take-before.new.points.items in
    let at : ℕ = c.take-before.result.1 in
    let walked = c.take-before.ensures.walked in
    let taken = c.take-before.ensures.taken in
    omega (arith, begun old c.args.start c.index.result.now c.requires.start c.index.ensures, begun new at c.index-2.result.now (omega (arith, walked.inside, taken.count)) c.index-2.ensures, c.if-index-finish.true)

pub returns-then-index-finish-clause-left : goal.returns-then-index-finish-clause-left
returns-then-index-finish-clause-left c left less more was =
    let old : List FreePoint = c.args.points.now.items in
    let new : List FreePoint = c.take-before.new.points.items in
    let start : ℕ = c.args.start in
    let at : ℕ = c.take-before.result.1 in
    let walked = c.take-before.ensures.walked in
    let same : c.index.result.now.time ≡ time_at old start = begun old start c.index.result.now c.requires.start c.index.ensures in
    let taken : IsTaken (time_at old start) (time_at old start + c.args.duration) c.args.request.now old new = rw same at c.take-before.ensures.taken in
    let ends : time_at old at ≡ time_at old start + c.args.duration = omega (arith, same, begun new at c.index-2.result.now (omega (arith, walked.inside, taken.count)) c.index-2.ensures, c.if-index-finish.true, taken.times at) in
    taken_left old new start (time_at old start + c.args.duration) c.args.request.now at left less c.requires.linked c.requires.start taken walked.inside ends more was

-- what is added was taken before
pub add-requires : goal.add-requires
add-requires c = record {
  few = λ r among.
      let old : List FreePoint = c.args.points.now.items in
      let new : List FreePoint = c.take-before.new.points.items in
      let start : ℕ = c.args.start in
      let before : ℕ = c.take-before.result.0 in
      let at : ℕ = c.take-before.result.1 in
      let walked = c.take-before.ensures.walked in
      let taken = c.take-before.ensures.taken in
      let same : c.index.result.now.time ≡ time_at old start = begun old start c.index.result.now c.requires.start c.index.ensures in
      let free : get_or c.index-3.result.now.free r 0 ≡ free_at new before r = ap (λ (x : FreePoint). get_or x.free r 0) (c.index-3.ensures ∙ get_or_default new before c.index-3.result.now no_point (omega (arith, walked.last, taken.count))) in
      let time : c.index-2.result.now.time ≡ time_at new at = begun new at c.index-2.result.now (omega (arith, walked.inside, taken.count)) c.index-2.ensures in
      ⊎_elim
      (λ (none : at ≡ start). absurd (c.if-index-finish.false (omega (arith, time, taken.times at, ap (time_at old) none, same, walked.beyond))))
      (λ (link : (next_at old before ≡ at) × (time_at old before < c.index.result.now.time + c.args.duration) × (time_at old start ≤ time_at old before)).
      omega (arith, free, taken.within before r walked.last among (omega (arith, same, link.2)) link.1, c.requires.few before r walked.last (omega (arith, link.1, same, c.requires.early, c.requires.short)) among))
      walked.link;
}

-- where the new point lies, and what the list is then
record IsDone (old mid later : List FreePoint) (start finish : ℕ) (request : List ℕ) (before after : ℕ) (point : FreePoint) : Type 0 where
  taken : IsTaken (time_at old start) finish request old mid
  place : HasPlace mid before after point
  put : IsPut mid later before point
  order : time_at old start ≤ time_at old before

steps : (c : goal.After-put) → IsDone c.args.points.now.items c.take-before.new.points.items c.put.new.points.items c.args.start (time_at c.args.points.now.items c.args.start + c.args.duration) c.args.request.now c.take-before.result.0 c.take-before.result.1 (record { free = c.add.new.amounts; time = c.index.result.now.time + c.args.duration; next = c.take-before.result.1 })
steps c =
    let old : List FreePoint = c.args.points.now.items in
    let mid : List FreePoint = c.take-before.new.points.items in
    let start : ℕ = c.args.start in
    let before : ℕ = c.take-before.result.0 in
    let at : ℕ = c.take-before.result.1 in
    let walked = c.take-before.ensures.walked in
    let same : c.index.result.now.time ≡ time_at old start = begun old start c.index.result.now c.requires.start c.index.ensures in
    let taken : IsTaken (time_at old start) (time_at old start + c.args.duration) c.args.request.now old mid = rw same at c.take-before.ensures.taken in
    let time : c.index-2.result.now.time ≡ time_at mid at = begun mid at c.index-2.result.now (omega (arith, walked.inside, taken.count)) c.index-2.ensures in
    let last : before < length mid = omega (arith, walked.last, taken.count) in
    ⊎_elim
    (λ (none : at ≡ start). absurd (c.if-index-finish.false (omega (arith, time, taken.times at, ap (time_at old) none, same, walked.beyond))))
    (λ (link : (next_at old before ≡ at) × (time_at old before < c.index.result.now.time + c.args.duration) × (time_at old start ≤ time_at old before)).
    record {
      taken = taken;
      place = record {
        last = last;
        inside = omega (arith, walked.inside, taken.count);
        link = taken.nexts before ∙ link.0;
        above = omega (arith, taken.times before, link.1);
        below = omega (arith, taken.times at, walked.beyond, time, c.if-index-finish.false);
        next = refl;
        soon = omega (arith, same, c.requires.early, c.requires.short);
      };
      put = put_is mid c.put.new.points.items before _ last c.put.ensures.items;
      order = link.2;
    })
    walked.link

pub returns-clause-linked : goal.returns-clause-linked
returns-clause-linked c =
    let it = steps c in
    put_linked _ _ _ _ _ (taken_linked _ _ _ _ _ c.requires.linked it.taken) it.place it.put

pub returns-clause-times : goal.returns-clause-times
returns-clause-times c k inside =
    let it = steps c in
    (omega (arith, inside, it.put.count, it.taken.count), put_times _ _ _ _ it.put k (omega (arith, inside, it.taken.count)) ∙ it.taken.times k)

pub returns-clause-finish : goal.returns-clause-finish
returns-clause-finish c =
    let it = steps c in
    let same : c.index.result.now.time ≡ time_at c.args.points.now.items c.args.start = begun c.args.points.now.items c.args.start c.index.result.now c.requires.start c.index.ensures in
    ap (time_at c.put.new.points.items) c.put.ensures.place ∙ ap (λ (x : FreePoint). x.time) it.put.own ∙ ap (λ (t : ℕ). t + c.args.duration) same

pub returns-clause-left : goal.returns-clause-left
returns-clause-left c left less more was =
    let it = steps c in
    let old : List FreePoint = c.args.points.now.items in
    let mid : List FreePoint = c.take-before.new.points.items in
    let before : ℕ = c.take-before.result.0 in
    let same : c.index.result.now.time ≡ time_at old c.args.start = begun old c.args.start c.index.result.now c.requires.start c.index.ensures in
    let free : (r : ℕ) → get_or c.index-3.result.now.free r 0 ≡ free_at mid before r = λ r. ap (λ (x : FreePoint). get_or x.free r 0) (c.index-3.ensures ∙ get_or_default mid before c.index-3.result.now no_point it.place.last) in
    put_left old mid c.put.new.points.items c.args.start (time_at old c.args.start + c.args.duration) c.args.request.now before c.take-before.result.1 _ left less c.requires.linked c.requires.start it.taken it.place it.put (ap (λ (t : ℕ). t + c.args.duration) same) it.order (λ r among. c.add.ensures r among ∙ ap (λ (x : ℕ). x + get_or c.args.request.now r 0) (free r)) more was
