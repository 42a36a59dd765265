use Rattle.std.specs.Prelude.{All}
use Rattle.std.proofs.Common.{◌≡◌, length}
use Rattle.farm_core.specs.Tills.{AreSeated}
use Rattle.farm_session.specs.TillDesk.{AreNew, HaveSeated}
use Rattle.farm_service.proofs.connection_desks.connection_desks.Given as goal

abbrev pub invariant-loop : goal.invariant-loop
invariant-loop l = record {
  seated : AreSeated l.tills l.desks;
  new : All (λ own. AreNew l.tills l.fn.desks own.items) l.connection_desks.items;
  count : length l.connection_desks.items ≡ l.counter;
  each : HaveSeated l.counter l.fn.desks l.desks;
}
