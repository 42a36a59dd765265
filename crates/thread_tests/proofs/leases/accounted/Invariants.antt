use Rattle.std.proofs.Common.{◌≡◌, ℕ, ◌≤◌, slice_get}
use Rattle.thread_tests.proofs.leases.accounted.Given as goal

-- the desks from i on are as they were
abbrev pub invariant-loop-i : goal.invariant-loop-i
invariant-loop-i l = (k : ℕ) → l.i ≤ k → slice_get l.desks k ≡ slice_get l.initial.desks k
