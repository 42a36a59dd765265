use Rattle.std.proofs.Common.{◌≡◌, ◌+◌, length}
use Rattle.psplib_mm.specs.Contents.{each, job_follows}
use Rattle.psplib_mm.proofs.checks.all_follow.Given as goal

abbrev pub invariant-loop-job : goal.invariant-loop-job
invariant-loop-job l = record {
  checked : each (job_follows l.count) l.place l.left ≡ each (job_follows l.count) 1 l.initial.left;
  place : l.place + length l.left ≡ 1 + length l.initial.left;
}

abbrev pub decreases-loop-job : goal.decreases-loop-job
decreases-loop-job l = length l.left
