use Rattle.std.proofs.Common.{◌≡◌, ◌-◌, List}
use Rattle.psplib_mm.specs.Contents.{Job, job_at, times}
use Rattle.psplib_mm.proofs.Steps.{onto}
use Rattle.psplib_mm.proofs.jobs.Jobs.of.Given as goal

abbrev pub invariant-loop : goal.invariant-loop
invariant-loop l = (done : List Job) × (onto done (times job_at (l.count - l.counter) l.rest) ≡ times job_at l.count l.cells)
