use Rattle.std.proofs.Common.{◌≡◌, Some, false, length, sym, ap, ◌∙◌, subst, arith}
use Rattle.std.specs.Prelude.{IfSome}
use Rattle.std.specs.Vec.{vec_capacity}
use Rattle.job_table.specs.Table.{AreWaiting, behind}
use Rattle.farm_core.specs.Step.{has_room}
use Rattle.farm_core.specs.World.{World, table_of, view}
use Rattle.farm_core.specs.Farm.{IsFarm, ArePassed, IsNext}
use Rattle.farm_core.specs.Turn.{IsFirstReady}
use Rattle.farm_core.proofs.NextLemmas.{key_known, idle_past, idle_all, first_ready, next_passed, next_behind}
use Rattle.farm_core.proofs.farm.Farm.next_ready.Goals as goal

pub returns-in_default-clause-idle : goal.returns-in_default-clause-idle
returns-in_default-clause-idle g c =
    let are : AreWaiting (table_of c.args.self.now) = subst (λ (x : World). AreWaiting (table_of x)) c.self.view_is c.waiting_len-i-end.ensures.waiting in
    idle_past c.args.self.now c.args.slice c.loop-i.i are (subst (IsNext c.args.self.now c.loop-i.i) c.in_default.is c.loop-i.invariant.next)

pub has_room-requires-clause-known : goal.has_room-requires-clause-known
has_room-requires-clause-known g c =
    let are : AreWaiting (table_of c.args.self.now) = subst (λ (x : World). AreWaiting (table_of x)) c.self.view_is c.waiting_len-i-end.ensures.waiting in
    let farm : IsFarm c.args.self.now (vec_capacity c.self.inside.journal) = subst (λ (x : World). IsFarm x (vec_capacity c.self.inside.journal)) c.self.view_is c.self.invariant.0 in
    let next : IsNext c.args.self.now c.loop-i.i (Some (c.in-Some.tenant, c.in-Some.seq)) = subst (IsNext c.args.self.now c.loop-i.i) c.in-Some.is c.loop-i.invariant.next in
    key_known c.args.self.now (vec_capacity c.self.inside.journal) next.at c.in-Some.tenant c.in-Some.seq farm are (sym next.here)

pub returns-then-has_room-clause-first : goal.returns-then-has_room-clause-first
returns-then-has_room-clause-first g c =
    let are : AreWaiting (table_of c.args.self.now) = subst (λ (x : World). AreWaiting (table_of x)) c.self.view_is c.waiting_len-i-end.ensures.waiting in
    let farm : IsFarm c.args.self.now (vec_capacity c.self.inside.journal) = subst (λ (x : World). IsFarm x (vec_capacity c.self.inside.journal)) c.self.view_is c.self.invariant.0 in
    let next : IsNext c.args.self.now c.loop-i.i (Some (c.in-Some.tenant, c.in-Some.seq)) = subst (IsNext c.args.self.now c.loop-i.i) c.in-Some.is c.loop-i.invariant.next in
    subst (λ at. IfSome at (λ key. IsFirstReady c.args.self.now key.0 key.1 c.args.slice)) (sym c.in-Some.is)
    (first_ready c.args.self.now (vec_capacity c.self.inside.journal) c.loop-i.i c.in-Some.tenant c.in-Some.seq c.args.slice farm are next (sym c.is_slice.ensures ∙ c.if-not-is_slice.false) (sym c.has_room.ensures.exact ∙ c.if-has_room.true))

pub returns-clause-idle : goal.returns-clause-idle
returns-clause-idle g c =
    let are : AreWaiting (table_of c.args.self.now) = subst (λ (x : World). AreWaiting (table_of x)) c.self.view_is c.waiting_len-i-end.ensures.waiting in
    idle_all c.args.self.now c.args.slice c.loop-i.i c.loop-i.at are c.loop-i.invariant.next
    (omega (arith, c.waiting_len-i-end.ensures.len, c.loop-i-test.false, c.loop-i.auto.i-end, ap (λ (x : World). length x.waiting) c.self.view_is))

pub loop-i-preserved : goal.loop-i-preserved
loop-i-preserved g c =
    let are : AreWaiting (table_of c.args.self.now) = subst (λ (x : World). AreWaiting (table_of x)) c.self.view_is c.waiting_len-i-end.ensures.waiting in
    let next : IsNext c.args.self.now c.loop-i.i (Some (c.in-Some.tenant, c.in-Some.seq)) = subst (IsNext c.args.self.now c.loop-i.i) c.in-Some.is c.loop-i.invariant.next in
    let none : has_room 2 (view c.in-Some.tenant c.args.self.now) ≡ false = sym c.has_room.ensures.exact ∙ c.if-has_room.false in
    record {
      next = next_behind c.args.self.now c.loop-i.i c.in-Some.tenant c.in-Some.seq c.next_waiting-at.result are next none
          (c.next_waiting-at.ensures.key ∙ ap (λ (x : World). behind c.in-Some.tenant c.in-Some.seq x.waiting) c.self.view_is);
      passed = subst (ArePassed c.args.self.now) (sym c.in-Some.is) (next_passed c.args.self.now c.loop-i.i c.in-Some.tenant c.in-Some.seq next none);
    }
