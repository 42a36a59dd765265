use Rattle.std.proofs.Common.{◌≡◌}
use Rattle.thread_tests.proofs.payments.Progress.looks.Given as goal

abbrev pub invariant-loop : goal.invariant-loop
invariant-loop l = l.desk.id ≡ l.initial.desk.id
