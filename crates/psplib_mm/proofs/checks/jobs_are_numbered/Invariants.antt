use Rattle.std.proofs.Common.{◌≡◌, ◌+◌, length}
use Rattle.psplib_mm.specs.Contents.{each, job_in_place}
use Rattle.psplib_mm.proofs.checks.jobs_are_numbered.Given as goal

abbrev pub invariant-loop-job : goal.invariant-loop-job
invariant-loop-job l = record {
  checked : each job_in_place l.place l.left ≡ each job_in_place 1 l.initial.left;
  place : l.place + length l.left ≡ 1 + length l.initial.left;
}

abbrev pub decreases-loop-job : goal.decreases-loop-job
decreases-loop-job l = length l.left
