use Rattle.std.proofs.Common.{◌≡◌, ◌<◌, ◌≤◌, ℕ, Bool, List, [], ◌∷◌, ◌++◌, false, get_or, length, All, arith, sym, ap, subst, ◌∙◌, Some}
use Rattle.std.proofs.lemmas.List.{get_or_default}
use Rattle.mrcpsp.specs.Project.{size}
use Rattle.mrcpsp.specs.Placed.{Placed}
use Rattle.mrcpsp.proofs.ProjectLemmas.{precedes-rising}
use Rattle.serial_sgs.specs.Members.{has}
use Rattle.serial_sgs.specs.Order.{IsAfter}
use Rattle.serial_sgs.specs.Waiting.{AreOthers}
use Rattle.serial_sgs.proofs.BoardLemmas.{ineligible_after}
use Rattle.serial_sgs.proofs.OrderLemmas.{missing_some}
use Rattle.strategy.specs.Candidate.{Candidate}
use Rattle.serial_pass.specs.declared.points.FreePoint.{FreePoint}
use Rattle.serial_pass.specs.declared.state.PassState.{PassState}
use Rattle.serial_pass.specs.Pass.{PassData, grown}
use Rattle.serial_pass.specs.Partial.{IsState}
use Rattle.serial_pass.specs.Points.{no_point, time_at}
use Rattle.serial_pass.specs.Waiting.{no_wait}
use Rattle.serial_pass.proofs.BoardLemmas.{IsOpenFor, open_for}
use Rattle.serial_pass.proofs.PartialLemmas.{IsBefore, IsNode, after_at, ready_for, start_at, state_push}
use Rattle.serial_pass.proofs.partial.PartialSchedule.place.Goals as goal

pub first_point-start-requires-clause-short : goal.first_point-start-requires-clause-short
first_point-start-requires-clause-short c =
    let s = c.self.inside in
    let d : Candidate = record { activity = c.candidate.inside.activity; mode = c.candidate.inside.mode } in
    let may : IsOpenFor s.project s.state.placed.items s.void d = open_for s.project s.state.placed.items s.void d (rw (← c.self.view_is, ← c.candidate.view_is) at c.requires) in
    let it : IsBefore s.project s.tables s.state d c.row-row.result.now c.index.result.now = ready_for s.project s.tables s.state s.void d c.row-row.result.now c.index.result.now c.self.invariant.0 c.self.invariant.1 may c.row-row.ensures c.index.ensures in
    it.short

pub first_point-start-requires-clause-small : goal.first_point-start-requires-clause-small
first_point-start-requires-clause-small c =
    let s = c.self.inside in
    let d : Candidate = record { activity = c.candidate.inside.activity; mode = c.candidate.inside.mode } in
    let may : IsOpenFor s.project s.state.placed.items s.void d = open_for s.project s.state.placed.items s.void d (rw (← c.self.view_is, ← c.candidate.view_is) at c.requires) in
    let it : IsBefore s.project s.tables s.state d c.row-row.result.now c.index.result.now = ready_for s.project s.tables s.state s.void d c.row-row.result.now c.index.result.now c.self.invariant.0 c.self.invariant.1 may c.row-row.ensures c.index.ensures in
    it.small

pub first_point-start-requires-clause-few : goal.first_point-start-requires-clause-few
first_point-start-requires-clause-few c =
    let s = c.self.inside in
    let d : Candidate = record { activity = c.candidate.inside.activity; mode = c.candidate.inside.mode } in
    let may : IsOpenFor s.project s.state.placed.items s.void d = open_for s.project s.state.placed.items s.void d (rw (← c.self.view_is, ← c.candidate.view_is) at c.requires) in
    let it : IsBefore s.project s.tables s.state d c.row-row.result.now c.index.result.now = ready_for s.project s.tables s.state s.void d c.row-row.result.now c.index.result.now c.self.invariant.0 c.self.invariant.1 may c.row-row.ensures c.index.ensures in
    rw c.deref.ensures.value it.few

pub first_point-start-requires-clause-soon : goal.first_point-start-requires-clause-soon
first_point-start-requires-clause-soon c =
    let s = c.self.inside in
    let d : Candidate = record { activity = c.candidate.inside.activity; mode = c.candidate.inside.mode } in
    let may : IsOpenFor s.project s.state.placed.items s.void d = open_for s.project s.state.placed.items s.void d (rw (← c.self.view_is, ← c.candidate.view_is) at c.requires) in
    let it : IsBefore s.project s.tables s.state d c.row-row.result.now c.index.result.now = ready_for s.project s.tables s.state s.void d c.row-row.result.now c.index.result.now c.self.invariant.0 c.self.invariant.1 may c.row-row.ensures c.index.ensures in
    rw c.deref.ensures.value it.soon

pub occupy-point-requires-clause-room : goal.occupy-point-requires-clause-room
occupy-point-requires-clause-room c =
    let s = c.self.inside in
    let d : Candidate = record { activity = c.candidate.inside.activity; mode = c.candidate.inside.mode } in
    let may : IsOpenFor s.project s.state.placed.items s.void d = open_for s.project s.state.placed.items s.void d (rw (← c.self.view_is, ← c.candidate.view_is) at c.requires) in
    let it : IsBefore s.project s.tables s.state d c.row-row.result.now c.index.result.now = ready_for s.project s.tables s.state s.void d c.row-row.result.now c.index.result.now c.self.invariant.0 c.self.invariant.1 may c.row-row.ensures c.index.ensures in
    omega (arith, c.self.invariant.1.few, c.self.invariant.1.room, it.count)

pub occupy-point-requires-clause-few : goal.occupy-point-requires-clause-few
occupy-point-requires-clause-few c =
    let s = c.self.inside in
    let d : Candidate = record { activity = c.candidate.inside.activity; mode = c.candidate.inside.mode } in
    let may : IsOpenFor s.project s.state.placed.items s.void d = open_for s.project s.state.placed.items s.void d (rw (← c.self.view_is, ← c.candidate.view_is) at c.requires) in
    let it : IsBefore s.project s.tables s.state d c.row-row.result.now c.index.result.now = ready_for s.project s.tables s.state s.void d c.row-row.result.now c.index.result.now c.self.invariant.0 c.self.invariant.1 may c.row-row.ensures c.index.ensures in
    it.few

pub occupy-point-requires-clause-short : goal.occupy-point-requires-clause-short
occupy-point-requires-clause-short c =
    let s = c.self.inside in
    let d : Candidate = record { activity = c.candidate.inside.activity; mode = c.candidate.inside.mode } in
    let may : IsOpenFor s.project s.state.placed.items s.void d = open_for s.project s.state.placed.items s.void d (rw (← c.self.view_is, ← c.candidate.view_is) at c.requires) in
    let it : IsBefore s.project s.tables s.state d c.row-row.result.now c.index.result.now = ready_for s.project s.tables s.state s.void d c.row-row.result.now c.index.result.now c.self.invariant.0 c.self.invariant.1 may c.row-row.ensures c.index.ensures in
    it.short

pub occupy-point-requires-clause-enough : goal.occupy-point-requires-clause-enough
occupy-point-requires-clause-enough c =
    let s = c.self.inside in
    let d : Candidate = record { activity = c.candidate.inside.activity; mode = c.candidate.inside.mode } in
    let may : IsOpenFor s.project s.state.placed.items s.void d = open_for s.project s.state.placed.items s.void d (rw (← c.self.view_is, ← c.candidate.view_is) at c.requires) in
    let it : IsBefore s.project s.tables s.state d c.row-row.result.now c.index.result.now = ready_for s.project s.tables s.state s.void d c.row-row.result.now c.index.result.now c.self.invariant.0 c.self.invariant.1 may c.row-row.ensures c.index.ensures in
    let points : List FreePoint = s.state.points.items in
    let first = rw c.deref.ensures.value at c.first_point-start.ensures.first in
    let early : time_at points c.first_point-start.result ≤ 1000000000 = rw c.deref.ensures.value at c.first_point-start.ensures.early in
    λ k inside from under. first.room k inside from under

pub overflow_add-finish : goal.overflow_add-finish
overflow_add-finish c =
    let s = c.self.inside in
    let d : Candidate = record { activity = c.candidate.inside.activity; mode = c.candidate.inside.mode } in
    let may : IsOpenFor s.project s.state.placed.items s.void d = open_for s.project s.state.placed.items s.void d (rw (← c.self.view_is, ← c.candidate.view_is) at c.requires) in
    let it : IsBefore s.project s.tables s.state d c.row-row.result.now c.index.result.now = ready_for s.project s.tables s.state s.void d c.row-row.result.now c.index.result.now c.self.invariant.0 c.self.invariant.1 may c.row-row.ensures c.index.ensures in
    let points : List FreePoint = s.state.points.items in
    let first = rw c.deref.ensures.value at c.first_point-start.ensures.first in
    let early : time_at points c.first_point-start.result ≤ 1000000000 = rw c.deref.ensures.value at c.first_point-start.ensures.early in
    let time : c.index-2.result.now.time ≡ time_at points c.first_point-start.result = ap (λ (x : FreePoint). x.time) (c.index-2.ensures ∙ get_or_default points c.first_point-start.result c.index-2.result.now no_point first.inside) in
    omega (arith, time, early, it.short)

pub push_reserved-requires : goal.push_reserved-requires
push_reserved-requires c =
    let s = c.self.inside in
    let d : Candidate = record { activity = c.candidate.inside.activity; mode = c.candidate.inside.mode } in
    let may : IsOpenFor s.project s.state.placed.items s.void d = open_for s.project s.state.placed.items s.void d (rw (← c.self.view_is, ← c.candidate.view_is) at c.requires) in
    let it : IsBefore s.project s.tables s.state d c.row-row.result.now c.index.result.now = ready_for s.project s.tables s.state s.void d c.row-row.result.now c.index.result.now c.self.invariant.0 c.self.invariant.1 may c.row-row.ensures c.index.ensures in
    omega (arith, it.count, c.self.invariant.1.memory, s.state.placed.ok.0)

pub tell_all-requires-clause-others : goal.tell_all-requires-clause-others
tell_all-requires-clause-others c =
    let s = c.self.inside in
    let d : Candidate = record { activity = c.candidate.inside.activity; mode = c.candidate.inside.mode } in
    let may : IsOpenFor s.project s.state.placed.items s.void d = open_for s.project s.state.placed.items s.void d (rw (← c.self.view_is, ← c.candidate.view_is) at c.requires) in
    let it : IsBefore s.project s.tables s.state d c.row-row.result.now c.index.result.now = ready_for s.project s.tables s.state s.void d c.row-row.result.now c.index.result.now c.self.invariant.0 c.self.invariant.1 may c.row-row.ensures c.index.ensures in
    let known : d.activity < size s.project = may.next.activity in
    let list : c.as_slice.result.now ≡ get_or s.tables.after.items d.activity [] = c.as_slice.ensures ∙ c.index-3.ensures ∙ get_or_default s.tables.after.items d.activity c.index-3.result.now [] (omega (arith, c.self.invariant.0.after.count, known)) in
    let names : IsAfter s.project d.activity (size s.project) (get_or s.tables.after.items d.activity []) = c.self.invariant.0.after.each d.activity known in
    subst (λ (xs : List ℕ). AreOthers (length s.state.waiting.items) xs) (sym list) (subst (λ (n : ℕ). AreOthers n (get_or s.tables.after.items d.activity [])) (sym c.self.invariant.1.waiting.count) names.others)

pub tell_all-requires-clause-some : goal.tell_all-requires-clause-some
tell_all-requires-clause-some c =
    let s = c.self.inside in
    let d : Candidate = record { activity = c.candidate.inside.activity; mode = c.candidate.inside.mode } in
    let may : IsOpenFor s.project s.state.placed.items s.void d = open_for s.project s.state.placed.items s.void d (rw (← c.self.view_is, ← c.candidate.view_is) at c.requires) in
    let it : IsBefore s.project s.tables s.state d c.row-row.result.now c.index.result.now = ready_for s.project s.tables s.state s.void d c.row-row.result.now c.index.result.now c.self.invariant.0 c.self.invariant.1 may c.row-row.ensures c.index.ensures in
    let known : d.activity < size s.project = may.next.activity in
    let list : c.as_slice.result.now ≡ get_or s.tables.after.items d.activity [] = c.as_slice.ensures ∙ c.index-3.ensures ∙ get_or_default s.tables.after.items d.activity c.index-3.result.now [] (omega (arith, c.self.invariant.0.after.count, known)) in
    let names : IsAfter s.project d.activity (size s.project) (get_or s.tables.after.items d.activity []) = c.self.invariant.0.after.each d.activity known in
    subst (λ (xs : List ℕ). All (λ x. 0 < (get_or s.state.waiting.items x no_wait).missing) xs) (sym list)
    (λ k e l. let there = after_at s.project d.activity (get_or s.tables.after.items d.activity []) k e names l in
    omega (arith, missing_some s.project s.state.placed.items d.activity (get_or (get_or s.tables.after.items d.activity []) k e) known there.1 it.new, (c.self.invariant.1.waiting.each (get_or (get_or s.tables.after.items d.activity []) k e) there.0).missing))

pub tell_all-requires-clause-closed : goal.tell_all-requires-clause-closed
tell_all-requires-clause-closed c =
    let s = c.self.inside in
    let d : Candidate = record { activity = c.candidate.inside.activity; mode = c.candidate.inside.mode } in
    let may : IsOpenFor s.project s.state.placed.items s.void d = open_for s.project s.state.placed.items s.void d (rw (← c.self.view_is, ← c.candidate.view_is) at c.requires) in
    let it : IsBefore s.project s.tables s.state d c.row-row.result.now c.index.result.now = ready_for s.project s.tables s.state s.void d c.row-row.result.now c.index.result.now c.self.invariant.0 c.self.invariant.1 may c.row-row.ensures c.index.ensures in
    let known : d.activity < size s.project = may.next.activity in
    let list : c.as_slice.result.now ≡ get_or s.tables.after.items d.activity [] = c.as_slice.ensures ∙ c.index-3.ensures ∙ get_or_default s.tables.after.items d.activity c.index-3.result.now [] (omega (arith, c.self.invariant.0.after.count, known)) in
    let names : IsAfter s.project d.activity (size s.project) (get_or s.tables.after.items d.activity []) = c.self.invariant.0.after.each d.activity known in
    subst (λ (xs : List ℕ). All (λ x. has c.remove.new.self.set x ≡ false) xs) (sym list)
    (λ k e l. let there = after_at s.project d.activity (get_or s.tables.after.items d.activity []) k e names l in
    let x : ℕ = get_or (get_or s.tables.after.items d.activity []) k e in
    let rises : d.activity < x = (precedes-rising s.project d.activity x c.self.invariant.0.project there.1).0 in
    c.remove.ensures.others x (λ e. omega (arith, e, rises)) ∙ (c.self.invariant.1.going may.going).own x there.0 ∙ ineligible_after s.project s.state.placed.items d.activity x known there.1 it.new)

pub invariant_of-self : goal.invariant_of-self
invariant_of-self c =
    let s = c.self.inside in
    let d : Candidate = record { activity = c.candidate.inside.activity; mode = c.candidate.inside.mode } in
    let may : IsOpenFor s.project s.state.placed.items s.void d = open_for s.project s.state.placed.items s.void d (rw (← c.self.view_is, ← c.candidate.view_is) at c.requires) in
    let it : IsBefore s.project s.tables s.state d c.row-row.result.now c.index.result.now = ready_for s.project s.tables s.state s.void d c.row-row.result.now c.index.result.now c.self.invariant.0 c.self.invariant.1 may c.row-row.ensures c.index.ensures in
    let points : List FreePoint = s.state.points.items in
    let first = rw c.deref.ensures.value at c.first_point-start.ensures.first in
    let early : time_at points c.first_point-start.result ≤ 1000000000 = rw c.deref.ensures.value at c.first_point-start.ensures.early in
    let time : c.index-2.result.now.time ≡ time_at points c.first_point-start.result = ap (λ (x : FreePoint). x.time) (c.index-2.ensures ∙ get_or_default points c.first_point-start.result c.index-2.result.now no_point first.inside) in
    let known : d.activity < size s.project = may.next.activity in
    let list : c.as_slice.result.now ≡ get_or s.tables.after.items d.activity [] = c.as_slice.ensures ∙ c.index-3.ensures ∙ get_or_default s.tables.after.items d.activity c.index-3.result.now [] (omega (arith, c.self.invariant.0.after.count, known)) in
    let names : IsAfter s.project d.activity (size s.project) (get_or s.tables.after.items d.activity []) = c.self.invariant.0.after.each d.activity known in
    let new : PassState = record { placed = c.push_reserved.new.self; points = c.occupy-point.new.points; waiting = c.tell_all.new.waiting; eligible = c.tell_all.new.eligible; slack = c.take_off.new.amounts; latest = c.max-self-inside.result } in
    let less = c.remove.new.self in
    let state : IsState s.project s.state.placed.items false s.state = subst (λ (v : Bool). IsState s.project s.state.placed.items v s.state) may.going c.self.invariant.1 in
    let sums = c.self.invariant.1.sums in
    let finishes = rw c.deref-2.ensures.value at c.remove.ensures.sums in
    let node : IsNode s.project s.tables s.state new d c.row-row.result.now c.index.result.now c.first_point-start.result c.occupy-point.result less = record {
      first = first;
      early = early;
      placed = c.push_reserved.ensures.items ∙ ap (λ (n : ℕ). let a : Placed = record { activity = d.activity; mode = d.mode; start = n } in s.state.placed.items ++ a ∷ []) time;
      memory = c.push_reserved.ensures.capacity;
      room = c.occupy-point.ensures.memory;
      few = c.occupy-point.ensures.few;
      linked = c.occupy-point.ensures.linked;
      times = c.occupy-point.ensures.times;
      inside = c.occupy-point.ensures.inside;
      finish = c.occupy-point.ensures.finish;
      left = c.occupy-point.ensures.left;
      slack = c.take_off.ensures;
      latest = omega (arith, c.max-self-inside.ensures, time);
      gone = c.remove.ensures.own;
      kept = c.remove.ensures.others;
      told = rw (list, time) at c.tell_all.ensures.told;
      entered = rw list at c.tell_all.ensures.entered;
      sums = (rw c.deref-3.ensures.value at c.tell_all.ensures.sums) s.project c.self.invariant.0.finishes (finishes s.project c.self.invariant.0.finishes sums known) (omega (arith, c.self.invariant.1.waiting.count));
    } in
    (c.self.invariant.0, subst (λ (v : Bool). IsState s.project new.placed.items v new) (sym may.going) (state_push s.project s.tables s.state new d c.row-row.result.now c.index.result.now c.first_point-start.result c.occupy-point.result less c.self.invariant.0 state may.next it node))

pub returns : goal.returns
returns c =
    let s = c.self.inside in
    let d : Candidate = record { activity = c.candidate.inside.activity; mode = c.candidate.inside.mode } in
    let may : IsOpenFor s.project s.state.placed.items s.void d = open_for s.project s.state.placed.items s.void d (rw (← c.self.view_is, ← c.candidate.view_is) at c.requires) in
    let it : IsBefore s.project s.tables s.state d c.row-row.result.now c.index.result.now = ready_for s.project s.tables s.state s.void d c.row-row.result.now c.index.result.now c.self.invariant.0 c.self.invariant.1 may c.row-row.ensures c.index.ensures in
    let points : List FreePoint = s.state.points.items in
    let first = rw c.deref.ensures.value at c.first_point-start.ensures.first in
    let early : time_at points c.first_point-start.result ≤ 1000000000 = rw c.deref.ensures.value at c.first_point-start.ensures.early in
    let time : c.index-2.result.now.time ≡ time_at points c.first_point-start.result = ap (λ (x : FreePoint). x.time) (c.index-2.ensures ∙ get_or_default points c.first_point-start.result c.index-2.result.now no_point first.inside) in
    let known : d.activity < size s.project = may.next.activity in
    let list : c.as_slice.result.now ≡ get_or s.tables.after.items d.activity [] = c.as_slice.ensures ∙ c.index-3.ensures ∙ get_or_default s.tables.after.items d.activity c.index-3.result.now [] (omega (arith, c.self.invariant.0.after.count, known)) in
    let names : IsAfter s.project d.activity (size s.project) (get_or s.tables.after.items d.activity []) = c.self.invariant.0.after.each d.activity known in
    let new : PassState = record { placed = c.push_reserved.new.self; points = c.occupy-point.new.points; waiting = c.tell_all.new.waiting; eligible = c.tell_all.new.eligible; slack = c.take_off.new.amounts; latest = c.max-self-inside.result } in
    let less = c.remove.new.self in
    let state : IsState s.project s.state.placed.items false s.state = subst (λ (v : Bool). IsState s.project s.state.placed.items v s.state) may.going c.self.invariant.1 in
    let sums = c.self.invariant.1.sums in
    let finishes = rw c.deref-2.ensures.value at c.remove.ensures.sums in
    let node : IsNode s.project s.tables s.state new d c.row-row.result.now c.index.result.now c.first_point-start.result c.occupy-point.result less = record {
      first = first;
      early = early;
      placed = c.push_reserved.ensures.items ∙ ap (λ (n : ℕ). let a : Placed = record { activity = d.activity; mode = d.mode; start = n } in s.state.placed.items ++ a ∷ []) time;
      memory = c.push_reserved.ensures.capacity;
      room = c.occupy-point.ensures.memory;
      few = c.occupy-point.ensures.few;
      linked = c.occupy-point.ensures.linked;
      times = c.occupy-point.ensures.times;
      inside = c.occupy-point.ensures.inside;
      finish = c.occupy-point.ensures.finish;
      left = c.occupy-point.ensures.left;
      slack = c.take_off.ensures;
      latest = omega (arith, c.max-self-inside.ensures, time);
      gone = c.remove.ensures.own;
      kept = c.remove.ensures.others;
      told = rw (list, time) at c.tell_all.ensures.told;
      entered = rw list at c.tell_all.ensures.entered;
      sums = (rw c.deref-3.ensures.value at c.tell_all.ensures.sums) s.project c.self.invariant.0.finishes (finishes s.project c.self.invariant.0.finishes sums known) (omega (arith, c.self.invariant.1.waiting.count));
    } in
    rw (← c.self.view_is, may.going) (ap (λ (xs : List Placed). let pass : PassData = record { project = s.project; placed = Some xs } in pass) (start_at s.project s.tables s.state new d c.row-row.result.now c.index.result.now c.first_point-start.result c.occupy-point.result less c.self.invariant.0 state may.next it node ∙ ap (λ (x : Candidate). grown s.project x s.state.placed.items) c.candidate.view_is))
