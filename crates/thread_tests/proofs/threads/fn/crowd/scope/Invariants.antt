use Rattle.std.specs.Prelude.{All}
use Rattle.std.proofs.Common.{◌≡◌}
use Rattle.turn_lock.specs.Values.{IsPassOf}
use Rattle.thread_tests.proofs.threads.fn.crowd.scope.Given as goal

abbrev pub invariant-loop-i : goal.invariant-loop-i
invariant-loop-i g l = record { own : IsPassOf l.lock l.mine; all : All (λ h. h.promise.0.value ≡ l.lock) l.handles.items }
