use Rattle.std.specs.Prelude.{All}
use Rattle.std.proofs.Common.{◌≡◌}
use Rattle.turn_lock.specs.Values.{IsPassOf}
use Rattle.thread_tests.proofs.threads.gather.Given as goal

abbrev pub invariant-loop : goal.invariant-loop
invariant-loop g l = record { own : IsPassOf l.lock l.pass; all : All (λ h. h.promise.0.value ≡ l.lock) l.handles.items }
