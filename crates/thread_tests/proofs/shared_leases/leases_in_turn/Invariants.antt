use Rattle.std.proofs.Common.{◌≡◌}
use Rattle.thread_tests.proofs.shared_leases.leases_in_turn.Given as goal

abbrev pub invariant-loop : goal.invariant-loop
invariant-loop l = l.desk.id ≡ l.initial.desk.id
