-- Points that are linked by rising time: walks over them, and one point more.
use Rattle.std.proofs.Common.{◌≡◌, ℕ, ◌+◌, ◌<◌, ◌≤◌, ◌⊎◌, List, [], ◌∷◌, ◌++◌, length, get_or, set, length-set, arith, refl, sym, ap, ◌∙◌, subst, inl, inr, ⊎_elim}
use Rattle.std.proofs.lemmas.Bool.{cases_lt, cases_eq}
use Rattle.std.proofs.lemmas.List.{length_push, get_or_push, get_or_append_left, get_or-set_same, get_or-set_other}
use Rattle.serial_sgs.specs.Profile.{IsMore}
use Rattle.serial_pass.specs.declared.points.FreePoint.{FreePoint}
use Rattle.serial_pass.specs.Points.{FitsAt, FitsFrom, IsBlocked, IsLeft, IsLinked, IsTaken, no_point, free_at, next_at, time_at}

-- ---- the first point

-- a walk from `start`, so far to `at`: the request fits at all points between
pub record IsWalking (points : List FreePoint) (request : List ℕ) (duration ready start at finish : ℕ) : Type 0 where
  pub begun : start < length points
  pub inside : at < length points
  pub above : time_at points ready ≤ time_at points start
  pub order : time_at points start ≤ time_at points at
  pub ends : finish ≡ time_at points start + duration
  pub early : time_at points start ≤ 1000000000
  pub room : (k : ℕ) → k < length points → time_at points start ≤ time_at points k → time_at points k < time_at points at → FitsAt points request k
  pub first : (t : ℕ) → time_at points ready ≤ t → t < time_at points start → IsBlocked points request duration t

pub walk_on : (points : List FreePoint) (request : List ℕ) (duration ready start at finish : ℕ) → duration ≤ 1000 → IsLinked points → IsWalking points request duration ready start at finish → time_at points at < finish → FitsAt points request at → IsWalking points request duration ready start (next_at points at) finish
walk_on points request duration ready start at finish short linked was before fit =
    let next = linked.onward at was.inside (omega (arith, before, was.ends, was.early, short)) in
    record {
      begun = was.begun;
      inside = next.0;
      above = was.above;
      order = omega (arith, was.order, next.1);
      ends = was.ends;
      early = was.early;
      room = λ k inside from under.
          ⊎_elim
          (λ (earlier : time_at points k < time_at points at). was.room k inside from earlier)
          (λ (later : time_at points at ≤ time_at points k).
          ⊎_elim
          (λ (same : time_at points k ≡ time_at points at). subst (λ (i : ℕ). FitsAt points request i) (sym (linked.apart k at inside was.inside same)) fit)
          (λ (other : time_at points k ≡ time_at points at → ⊥). absurd (omega (arith, linked.nearest k at inside was.inside (omega (arith, later, other)), under)))
          (cases_eq (time_at points k) (time_at points at)))
          (cases_lt (time_at points k) (time_at points at));
      first = was.first;
    }

pub walk_over : (points : List FreePoint) (request : List ℕ) (duration ready start at finish e : ℕ) → duration ≤ 1000 → IsLinked points → e < length points → time_at points e ≤ 1000000000 → FitsFrom points request (time_at points e) → IsWalking points request duration ready start at finish → time_at points at < finish → (FitsAt points request at → ⊥) → IsWalking points request duration ready (next_at points at) (next_at points at) (time_at points (next_at points at) + duration)
walk_over points request duration ready start at finish e short linked inside_e early_e fits_e was before full =
    let soon : time_at points at < 4294967295 = omega (arith, before, was.ends, was.early, short) in
    let next = linked.onward at was.inside soon in
    let sooner : time_at points at < time_at points e =
    ⊎_elim
    (λ (l : time_at points at < time_at points e). l)
    (λ (late : time_at points e ≤ time_at points at). absurd (full (fits_e at was.inside late soon)))
    (cases_lt (time_at points at) (time_at points e)) in
    let by : time_at points (next_at points at) ≤ time_at points e = linked.nearest e at inside_e was.inside sooner in
    record {
      begun = next.0;
      inside = next.0;
      above = omega (arith, was.above, was.order, next.1);
      order = omega arith;
      ends = refl;
      early = omega (arith, by, early_e);
      room = λ k inside from under. absurd (omega (arith, from, under));
      first = λ t from under.
          ⊎_elim
          (λ (earlier : t < time_at points start). was.first t from earlier)
          (λ (later : time_at points start ≤ t). (at, was.inside, omega (arith, before, was.ends, was.order), omega (arith, before, was.ends, later), under, full))
          (cases_lt t (time_at points start));
    }

-- ---- what is taken

-- a walk from `start` that takes, so far to `at`
pub record IsTaking (points later : List FreePoint) (start finish : ℕ) (request : List ℕ) (before at : ℕ) : Type 0 where
  pub taken : IsTaken (time_at points start) (time_at points at) request points later
  pub last : before < length points
  pub inside : at < length points
  pub order : time_at points start ≤ time_at points at
  pub link : (at ≡ start) ⊎ ((next_at points before ≡ at) × (time_at points before < finish) × (time_at points start ≤ time_at points before))

pub take_none : (points : List FreePoint) (start finish : ℕ) (request : List ℕ) → start < length points → IsTaking points points start finish request start start
take_none points start finish request inside = record {
  taken = record {
    count = refl;
    times = λ k. refl;
    nexts = λ k. refl;
    within = λ k r _ _ from under. absurd (omega (arith, from, under));
    beyond = λ k r _ _ _. refl;
  };
  last = inside;
  inside = inside;
  order = omega arith;
  link = inl refl;
}

take_next_at : (points later : List FreePoint) (start finish : ℕ) (request free : List ℕ) (before at : ℕ) (point : FreePoint) → IsLinked points → finish < 4294967295 → time_at points at < finish → IsTaking points later start finish request before at → point.time ≡ time_at later at → point.next ≡ next_at later at → ((r : ℕ) → r < 8 → free_at later at r ≡ get_or point.free r 0 + get_or request r 0) → IsTaking points (set later at point) start finish request at (next_at points at)
take_next_at points later start finish request free before at point linked soon here was time next taken =
    let onward = linked.onward at was.inside (omega (arith, here, soon)) in
    let long : at < length later = omega (arith, was.taken.count, was.inside) in
    let same : get_or (set later at point) at no_point ≡ point = get_or-set_same later at point no_point long in
    let rest : (k : ℕ) → (k ≡ at → ⊥) → get_or (set later at point) k no_point ≡ get_or later k no_point = λ k ne. get_or-set_other later at k point no_point ne in
    let times : (k : ℕ) → time_at (set later at point) k ≡ time_at points k = λ k.
    ⊎_elim
    (λ (e : k ≡ at). rw e (ap (λ (x : FreePoint). x.time) same ∙ time ∙ was.taken.times at))
    (λ (ne : k ≡ at → ⊥). ap (λ (x : FreePoint). x.time) (rest k ne) ∙ was.taken.times k)
    (cases_eq k at) in
    record {
      taken = record {
        count = length-set later at point ∙ was.taken.count;
        times = times;
        nexts = λ k.
            ⊎_elim
            (λ (e : k ≡ at). rw e (ap (λ (x : FreePoint). x.next) same ∙ next ∙ was.taken.nexts at))
            (λ (ne : k ≡ at → ⊥). ap (λ (x : FreePoint). x.next) (rest k ne) ∙ was.taken.nexts k)
            (cases_eq k at);
        within = λ k r inside among from under.
            ⊎_elim
            (λ (e : k ≡ at).
            rw e (sym (was.taken.beyond at r was.inside among (inr (omega arith))) ∙ taken r among ∙ ap (λ (x : FreePoint). get_or x.free r 0 + get_or request r 0) (sym same)))
            (λ (ne : k ≡ at → ⊥).
            let under_at : time_at points k < time_at points at =
            ⊎_elim
            (λ (l : time_at points k < time_at points at). l)
            (λ (late : time_at points at ≤ time_at points k).
            ⊎_elim
            (λ (eq : time_at points k ≡ time_at points at). absurd (ne (linked.apart k at inside was.inside eq)))
            (λ (other : time_at points k ≡ time_at points at → ⊥). absurd (omega (arith, linked.nearest k at inside was.inside (omega (arith, late, other)), under)))
            (cases_eq (time_at points k) (time_at points at)))
            (cases_lt (time_at points k) (time_at points at)) in
            was.taken.within k r inside among from under_at ∙ ap (λ (x : FreePoint). get_or x.free r 0 + get_or request r 0) (sym (rest k ne)))
            (cases_eq k at);
        beyond = λ k r inside among out.
            let ne : k ≡ at → ⊥ = λ e.
            ⊎_elim
            (λ (early : time_at points k < time_at points start). omega (arith, early, ap (time_at points) e, was.order))
            (λ (over : time_at points (next_at points at) ≤ time_at points k). omega (arith, over, ap (time_at points) e, onward.1))
            out in
            ap (λ (x : FreePoint). get_or x.free r 0) (rest k ne)
            ∙ was.taken.beyond k r inside among
            (⊎_elim (λ (early : time_at points k < time_at points start). inl early) (λ (over : time_at points (next_at points at) ≤ time_at points k). inr (omega (arith, over, onward.1))) out);
      };
      last = was.inside;
      inside = onward.0;
      order = omega (arith, was.order, onward.1);
      link = inr (refl, here, was.order);
    }

pub take_next : (points later : List FreePoint) (start finish : ℕ) (request free : List ℕ) (before at to : ℕ) (point : FreePoint) → to ≡ next_at later at → IsLinked points → finish < 4294967295 → time_at points at < finish → IsTaking points later start finish request before at → point.time ≡ time_at later at → point.next ≡ next_at later at → ((r : ℕ) → r < 8 → free_at later at r ≡ get_or point.free r 0 + get_or request r 0) → IsTaking points (set later at point) start finish request at to
take_next points later start finish request free before at to point leads linked soon here was time next taken =
    subst (λ (n : ℕ). IsTaking points (set later at point) start finish request at n) (sym (leads ∙ was.taken.nexts at)) (take_next_at points later start finish request free before at point linked soon here was time next taken)

-- the walk is over where no point lies between the finish and its end
pub take_all : (points later : List FreePoint) (start finish : ℕ) (request : List ℕ) (before at : ℕ) → IsLinked points → time_at points start ≤ finish → IsTaking points later start finish request before at → finish ≤ time_at points at → IsTaken (time_at points start) finish request points later
take_all points later start finish request before at linked order was over = record {
  count = was.taken.count;
  times = was.taken.times;
  nexts = was.taken.nexts;
  within = λ k r inside among from under. was.taken.within k r inside among from (omega (arith, under, over));
  beyond = λ k r inside among out.
      ⊎_elim
      (λ (early : time_at points k < time_at points start). was.taken.beyond k r inside among (inl early))
      (λ (late : finish ≤ time_at points k).
      ⊎_elim
      (λ (at_start : at ≡ start). was.taken.beyond k r inside among (inr (omega (arith, ap (time_at points) at_start, order, late))))
      (λ (link : (next_at points before ≡ at) × (time_at points before < finish) × (time_at points start ≤ time_at points before)).
      let by : time_at points (next_at points before) ≤ time_at points k = linked.nearest k before inside was.last (omega (arith, link.1, late)) in
      was.taken.beyond k r inside among (inr (omega (arith, by, ap (time_at points) link.0))))
      was.link)
      out;
}

-- ---- one point more

pub taken_linked : (points later : List FreePoint) (start finish : ℕ) (request : List ℕ) → IsLinked points → IsTaken start finish request points later → IsLinked later
taken_linked points later start finish request linked taken = record {
  some = omega (arith, taken.count, linked.some);
  begins = taken.times 0 ∙ linked.begins;
  late = λ k inside. omega (arith, taken.times k, linked.late k (omega (arith, taken.count, inside)));
  onward = λ k inside soon.
      let next = linked.onward k (omega (arith, taken.count, inside)) (omega (arith, taken.times k, soon)) in
      (omega (arith, taken.count, taken.nexts k, next.0), omega (arith, taken.times k, taken.times (next_at later k), ap (time_at points) (taken.nexts k), next.1));
  ends = λ k inside over. taken.nexts k ∙ linked.ends k (omega (arith, taken.count, inside)) (omega (arith, taken.times k, over));
  nearest = λ i k inside among before.
      omega (arith, taken.times (next_at later k), ap (time_at points) (taken.nexts k), taken.times i, linked.nearest i k (omega (arith, taken.count, inside)) (omega (arith, taken.count, among)) (omega (arith, taken.times i, taken.times k, before)));
  apart = λ i k inside among same. linked.apart i k (omega (arith, taken.count, inside)) (omega (arith, taken.count, among)) (omega (arith, taken.times i, taken.times k, same));
}

-- where the finish has a point already
pub taken_left : (points later : List FreePoint) (start finish : ℕ) (request : List ℕ) (at : ℕ) (left less : ℕ → ℕ → ℕ) → IsLinked points → start < length points → IsTaken (time_at points start) finish request points later → at < length points → time_at points at ≡ finish → IsMore 8 (time_at points start) finish request less left → IsLeft left points → IsLeft less later
taken_left points later start finish request at left less linked begun taken inside ends more was k r u known among from under =
    let here : k < length points = omega (arith, taken.count, known) in
    let after : time_at points k ≤ u = omega (arith, taken.times k, from) in
    let before : u < time_at points (next_at points k) = omega (arith, under, taken.times (next_at later k), ap (time_at points) (taken.nexts k)) in
    let is : free_at points k r ≡ left r u = was k r u here among after before in
    ⊎_elim
    (λ (early : time_at points k < time_at points start).
    omega (arith, taken.beyond k r here among (inl early), is, more.beyond r u among (inl (omega (arith, before, linked.nearest start k begun here early)))))
    (λ (begun_k : time_at points start ≤ time_at points k).
    ⊎_elim
    (λ (runs : time_at points k < finish).
    omega (arith, taken.within k r here among begun_k runs, is, more.within r u among (omega (arith, begun_k, after)) (omega (arith, before, linked.nearest at k inside here (omega (arith, runs, ends)), ends))))
    (λ (over : finish ≤ time_at points k).
    omega (arith, taken.beyond k r here among (inr over), is, more.beyond r u among (inr (omega (arith, over, after)))))
    (cases_lt (time_at points k) finish))
    (cases_lt (time_at points k) (time_at points start))

-- a point is put behind point `before`
pub record IsPut (points later : List FreePoint) (before : ℕ) (point : FreePoint) : Type 0 where
  pub count : length later ≡ length points + 1
  pub own : get_or later (length points) no_point ≡ point
  pub from : get_or later before no_point ≡ record (get_or points before no_point) { next = length points }
  pub rest : (k : ℕ) → k < length points → (k ≡ before → ⊥) → get_or later k no_point ≡ get_or points k no_point

pub put_is : (points later : List FreePoint) (before : ℕ) (point : FreePoint) → before < length points → later ≡ set points before (record (get_or points before no_point) { next = length points }) ++ point ∷ [] → IsPut points later before point
put_is points later before point inside is =
    let changed : FreePoint = record (get_or points before no_point) { next = length points } in
    let long : length (set points before changed) ≡ length points = length-set points before changed in
    record {
      count = ap length is ∙ length_push (set points before changed) point ∙ ap (λ n. n + 1) long;
      own = ap (λ (xs : List FreePoint). get_or xs (length points) no_point) is ∙ get_or_push (set points before changed) point no_point (length points) long;
      from = ap (λ (xs : List FreePoint). get_or xs before no_point) is ∙ get_or_append_left (set points before changed) (point ∷ []) no_point before (omega (arith, long, inside)) ∙ get_or-set_same points before changed no_point inside;
      rest = λ k l ne. ap (λ (xs : List FreePoint). get_or xs k no_point) is ∙ get_or_append_left (set points before changed) (point ∷ []) no_point k (omega (arith, long, l)) ∙ get_or-set_other points before k changed no_point ne;
    }

-- its place among the others
pub record HasPlace (points : List FreePoint) (before after : ℕ) (point : FreePoint) : Type 0 where
  pub last : before < length points
  pub inside : after < length points
  pub link : next_at points before ≡ after
  pub above : time_at points before < point.time
  pub below : point.time < time_at points after
  pub next : point.next ≡ after
  pub soon : point.time < 4294967295

pub put_times : (points later : List FreePoint) (before : ℕ) (point : FreePoint) → IsPut points later before point → (k : ℕ) → k < length points → time_at later k ≡ time_at points k
put_times points later before point put k l =
    ⊎_elim
    (λ (e : k ≡ before). rw e (ap (λ (x : FreePoint). x.time) put.from))
    (λ (ne : k ≡ before → ⊥). ap (λ (x : FreePoint). x.time) (put.rest k l ne))
    (cases_eq k before)

module _ (points later : List FreePoint) (before after : ℕ) (point : FreePoint) (linked : IsLinked points) (place : HasPlace points before after point) (put : IsPut points later before point) where
  own_time : time_at later (length points) ≡ point.time
  own_time = ap (λ (x : FreePoint). x.time) put.own

  own_next : next_at later (length points) ≡ after
  own_next = ap (λ (x : FreePoint). x.next) put.own ∙ place.next

  own_next_time : time_at later (next_at later (length points)) ≡ time_at points after
  own_next_time = ap (time_at later) own_next ∙ put_times points later before point put after place.inside

  before_next : next_at later before ≡ length points
  before_next = ap (λ (x : FreePoint). x.next) put.from

  before_next_time : time_at later (next_at later before) ≡ point.time
  before_next_time = ap (time_at later) before_next ∙ own_time

  rest_next : (k : ℕ) → k < length points → (k ≡ before → ⊥) → next_at later k ≡ next_at points k
  rest_next k l ne = ap (λ (x : FreePoint). x.next) (put.rest k l ne)

  rest_next_time : (k : ℕ) → k < length points → (k ≡ before → ⊥) → next_at points k < length points → time_at later (next_at later k) ≡ time_at points (next_at points k)
  rest_next_time k l ne among = ap (time_at later) (rest_next k l ne) ∙ put_times points later before point put (next_at points k) among

  -- who comes before the new point leads no further, but for the one before it
  not_past : (k : ℕ) → k < length points → (k ≡ before → ⊥) → time_at points k < point.time → time_at points (next_at points k) ≤ time_at points before
  not_past k l ne early =
      ⊎_elim
      (λ (lower : time_at points k < time_at points before). linked.nearest before k place.last l lower)
      (λ (upper : time_at points before ≤ time_at points k).
      ⊎_elim
      (λ (same : time_at points k ≡ time_at points before). absurd (ne (linked.apart k before l place.last same)))
      (λ (other : time_at points k ≡ time_at points before → ⊥). absurd (omega (arith, linked.nearest k before l place.last (omega (arith, upper, other)), ap (time_at points) place.link, early, place.below)))
      (cases_eq (time_at points k) (time_at points before)))
      (cases_lt (time_at points k) (time_at points before))

  last_or : (i : ℕ) → i < length later → (i < length points) ⊎ (i ≡ length points)
  last_or i l = ⊎_elim (λ (in_old : i < length points). inl in_old) (λ (over : length points ≤ i). inr (omega (arith, over, l, put.count))) (cases_lt i (length points))

  pub put_linked : IsLinked later
  put_linked = record {
    some = omega (arith, put.count);
    begins = put_times points later before point put 0 linked.some ∙ linked.begins;
    late = λ k inside.
        ⊎_elim
        (λ (old : k < length points). omega (arith, put_times points later before point put k old, linked.late k old))
        (λ (new : k ≡ length points). omega (arith, ap (time_at later) new, own_time, place.soon))
        (last_or k inside);
    onward = λ k inside soon.
        ⊎_elim
        (λ (old : k < length points).
        ⊎_elim
        (λ (e : k ≡ before). rw e (omega (arith, before_next, put.count), omega (arith, before_next_time, put_times points later before point put before place.last, place.above)))
        (λ (ne : k ≡ before → ⊥).
        let next = linked.onward k old (omega (arith, soon, put_times points later before point put k old)) in
        (omega (arith, rest_next k old ne, next.0, put.count), omega (arith, rest_next_time k old ne next.0, next.1, put_times points later before point put k old)))
        (cases_eq k before))
        (λ (new : k ≡ length points). rw new (omega (arith, own_next, place.inside, put.count), omega (arith, own_next_time, own_time, place.below)))
        (last_or k inside);
    ends = λ k inside over.
        ⊎_elim
        (λ (old : k < length points).
        let same : time_at later k ≡ time_at points k = put_times points later before point put k old in
        let ne : k ≡ before → ⊥ = λ e. omega (arith, over, same, ap (time_at points) e, place.above, place.soon) in
        rest_next k old ne ∙ linked.ends k old (omega (arith, over, same)))
        (λ (new : k ≡ length points). absurd (omega (arith, over, ap (time_at later) new, own_time, place.soon)))
        (last_or k inside);
    nearest = λ i k inside among lower.
        ⊎_elim
        (λ (old : k < length points).
        ⊎_elim
        (λ (e : k ≡ before).
        let bound : time_at later (next_at later k) ≡ point.time = ap (λ (n : ℕ). time_at later (next_at later n)) e ∙ before_next_time in
        let mine : time_at later k ≡ time_at points before = ap (time_at later) e ∙ put_times points later before point put before place.last in
        ⊎_elim
        (λ (in_old : i < length points).
        omega (arith, bound, mine, lower, put_times points later before point put i in_old, place.below, ap (time_at points) place.link, linked.nearest i before in_old place.last (omega (arith, mine, lower, put_times points later before point put i in_old))))
        (λ (new : i ≡ length points). omega (arith, bound, ap (time_at later) new, own_time))
        (last_or i inside))
        (λ (ne : k ≡ before → ⊥).
        let mine : time_at later k ≡ time_at points k = put_times points later before point put k old in
        ⊎_elim
        (λ (in_old : i < length points).
        let there : time_at later i ≡ time_at points i = put_times points later before point put i in_old in
        let onward = linked.onward k old (omega (arith, mine, lower, there, linked.late i in_old)) in
        omega (arith, rest_next_time k old ne onward.0, linked.nearest i k in_old old (omega (arith, mine, lower, there)), there))
        (λ (new : i ≡ length points).
        let there : time_at later i ≡ point.time = ap (time_at later) new ∙ own_time in
        let onward = linked.onward k old (omega (arith, mine, lower, there, place.soon)) in
        omega (arith, rest_next_time k old ne onward.0, not_past k old ne (omega (arith, mine, lower, there)), place.above, there))
        (last_or i inside))
        (cases_eq k before))
        (λ (new : k ≡ length points).
        let bound : time_at later (next_at later k) ≡ time_at points after = ap (λ (n : ℕ). time_at later (next_at later n)) new ∙ own_next_time in
        let mine : time_at later k ≡ point.time = ap (time_at later) new ∙ own_time in
        ⊎_elim
        (λ (in_old : i < length points).
        omega (arith, bound, ap (time_at points) place.link, linked.nearest i before in_old place.last (omega (arith, mine, lower, place.above, put_times points later before point put i in_old)), put_times points later before point put i in_old))
        (λ (too : i ≡ length points). absurd (omega (arith, lower, mine, ap (time_at later) too, own_time)))
        (last_or i inside))
        (last_or k among);
    apart = λ i k inside among same.
        ⊎_elim
        (λ (in_old : i < length points).
        ⊎_elim
        (λ (old : k < length points). linked.apart i k in_old old (omega (arith, same, put_times points later before point put i in_old, put_times points later before point put k old)))
        (λ (new : k ≡ length points). absurd (never_there i in_old (omega (arith, same, put_times points later before point put i in_old, ap (time_at later) new, own_time))))
        (last_or k among))
        (λ (new : i ≡ length points).
        ⊎_elim
        (λ (old : k < length points). absurd (never_there k old (omega (arith, same, put_times points later before point put k old, ap (time_at later) new, own_time))))
        (λ (too : k ≡ length points). omega (arith, new, too))
        (last_or k among))
        (last_or i inside);
  }
    where
      never_there : (k : ℕ) → k < length points → time_at points k ≡ point.time → ⊥
      never_there k l same = omega (arith, linked.nearest k before l place.last (omega (arith, same, place.above)), ap (time_at points) place.link, same, place.below)

-- what is left with a new point at the finish
pub put_left : (points mid later : List FreePoint) (start finish : ℕ) (request : List ℕ) (before after : ℕ) (point : FreePoint) (left less : ℕ → ℕ → ℕ) → IsLinked points → start < length points → IsTaken (time_at points start) finish request points mid → HasPlace mid before after point → IsPut mid later before point → point.time ≡ finish → time_at points start ≤ time_at points before → ((r : ℕ) → r < 8 → get_or point.free r 0 ≡ free_at mid before r + get_or request r 0) → IsMore 8 (time_at points start) finish request less left → IsLeft left points → IsLeft less later
put_left points mid later start finish request before after point left less linked begun taken place put ends order given more was k r u known among from under =
    let linked_mid : IsLinked mid = taken_linked points mid (time_at points start) finish request linked taken in
    let last : before < length points = omega (arith, place.last, taken.count) in
    let link : next_at points before ≡ after = sym (taken.nexts before) ∙ place.link in
    let below : finish < time_at points after = omega (arith, place.below, ends, taken.times after) in
    let above : time_at points before < finish = omega (arith, place.above, ends, taken.times before) in
    ⊎_elim
    (λ (old : k < length mid).
    let in_points : k < length points = omega (arith, old, taken.count) in
    let mine : time_at later k ≡ time_at points k = put_times mid later before point put k old ∙ taken.times k in
    ⊎_elim
    (λ (e : k ≡ before).
    let here : time_at points before ≤ u = omega (arith, from, mine, ap (time_at points) e) in
    let till : u < finish = omega (arith, under, ap (λ (n : ℕ). time_at later (next_at later n)) e, before_next_time mid later before after point linked_mid place put, ends) in
    let is : free_at points before r ≡ left r u = was before r u last among here (omega (arith, till, below, ap (time_at points) link)) in
    let free : free_at later k r ≡ free_at mid before r = ap (λ (n : ℕ). free_at later n r) e ∙ ap (λ (x : FreePoint). get_or x.free r 0) put.from in
    omega (arith, free, taken.within before r last among order above, is, more.within r u among (omega (arith, here, order)) till))
    (λ (ne : k ≡ before → ⊥).
    let after_k : time_at points k ≤ u = omega (arith, from, mine) in
    let free : free_at later k r ≡ free_at mid k r = ap (λ (x : FreePoint). get_or x.free r 0) (put.rest k old ne) in
    let next_is : next_at later k ≡ next_at points k = rest_next mid later before after point linked_mid place put k old ne ∙ taken.nexts k in
    let soon : time_at points k < 4294967295 =
    ⊎_elim
    (λ (l : time_at points k < 4294967295). l)
    (λ (over : 4294967295 ≤ time_at points k). absurd (past_end later k (put_linked mid later before after point linked_mid place put) known u from under (omega (arith, over, mine))))
    (cases_lt (time_at points k) 4294967295) in
    let onward = linked.onward k in_points soon in
    let before_k : u < time_at points (next_at points k) = omega (arith, under, ap (time_at later) next_is, put_times mid later before point put (next_at points k) (omega (arith, onward.0, taken.count)), taken.times (next_at points k)) in
    let is : free_at points k r ≡ left r u = was k r u in_points among after_k before_k in
    ⊎_elim
    (λ (early : time_at points k < time_at points start).
    omega (arith, free, taken.beyond k r in_points among (inl early), is, more.beyond r u among (inl (omega (arith, before_k, linked.nearest start k begun in_points early)))))
    (λ (begun_k : time_at points start ≤ time_at points k).
    ⊎_elim
    (λ (runs : time_at points k < finish).
    let by : time_at mid (next_at mid k) ≤ time_at mid before = not_past mid later before after point linked_mid place put k old ne (omega (arith, runs, ends, taken.times k)) in
    let till : u < finish = omega (arith, by, before_k, taken.times (next_at mid k), ap (time_at points) (taken.nexts k), taken.times before, above) in
    omega (arith, free, taken.within k r in_points among begun_k runs, is, more.within r u among (omega (arith, begun_k, after_k)) till))
    (λ (over : finish ≤ time_at points k).
    omega (arith, free, taken.beyond k r in_points among (inr over), is, more.beyond r u among (inr (omega (arith, over, after_k)))))
    (cases_lt (time_at points k) finish))
    (cases_lt (time_at points k) (time_at points start)))
    (cases_eq k before))
    (λ (new : k ≡ length mid).
    let here : finish ≤ u = omega (arith, from, ap (time_at later) new, own_time mid later before after point linked_mid place put, ends) in
    let till : u < time_at points after = omega (arith, under, ap (λ (n : ℕ). time_at later (next_at later n)) new, own_next_time mid later before after point linked_mid place put, taken.times after) in
    let is : free_at points before r ≡ left r u = was before r u last among (omega (arith, here, above)) (omega (arith, till, ap (time_at points) link)) in
    let free : free_at later k r ≡ get_or point.free r 0 = ap (λ (n : ℕ). free_at later n r) new ∙ ap (λ (x : FreePoint). get_or x.free r 0) put.own in
    omega (arith, free, given r among, taken.within before r last among order above, is, more.beyond r u among (inr here)))
    (last_or mid later before after point linked_mid place put k known)
  where
    -- no period lies behind the last point
    past_end : (later : List FreePoint) (k : ℕ) → IsLinked later → k < length later → (u : ℕ) → time_at later k ≤ u → u < time_at later (next_at later k) → 4294967295 ≤ time_at later k → ⊥
    past_end later k linked inside u from under over = omega (arith, from, under, ap (time_at later) (linked.ends k inside over))
