use Rattle.std.proofs.Common.{◌≡◌, slice_get}
use Rattle.job_table.proofs.table.JobTable.waiting.Given as goal

abbrev pub invariant-loop-k : goal.invariant-loop-k
invariant-loop-k g l = l.at ≡ slice_get l.self.waiting l.k
