use Rattle.std.specs.Prelude.{All}
use Rattle.std.proofs.Common.{◌≡◌}
use Rattle.farm_core.specs.Tills.{AreTillsOf}
use Rattle.farm_session.specs.TillDesk.{tills_of}
use Rattle.farm_service.proofs.service.spawn_all.Given as goal

abbrev pub invariant-loop-i : goal.invariant-loop-i
invariant-loop-i g l = record {
  own : g.D.Shared.owns l.service.shared.now l.token;
  tills : All (λ own. AreTillsOf l.service.shop.config.now (tills_of own.items)) l.connection_desks.items;
  all : All (λ h. h.promise.0.value ≡ l.service.shared.now) l.handles.items;
}
