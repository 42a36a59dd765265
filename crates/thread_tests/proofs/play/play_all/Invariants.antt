use Rattle.turn_lock.specs.Values.{IsPassOf}
use Rattle.thread_tests.proofs.play.play_all.Given as goal

abbrev pub invariant-loop-at : goal.invariant-loop-at
invariant-loop-at g l = IsPassOf l.pool.lock l.pass
