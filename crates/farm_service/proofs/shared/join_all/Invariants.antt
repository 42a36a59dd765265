use Rattle.std.specs.Prelude.{All}
use Rattle.std.proofs.Common.{◌≡◌}
use Rattle.farm_service.proofs.shared.join_all.Given as goal

abbrev pub invariant-loop : goal.invariant-loop
invariant-loop g l = record { own : g.D.Shared.owns l.shared l.mine; all : All (λ h. h.promise.0.value ≡ l.shared) l.handles.items }
