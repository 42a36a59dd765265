use Rattle.turn_lock.specs.Values.{IsPassOf}
use Rattle.thread_tests.proofs.threads.add.Given as goal

abbrev pub invariant-loop : goal.invariant-loop
invariant-loop g l = record { own : IsPassOf l.lock l.pass }
