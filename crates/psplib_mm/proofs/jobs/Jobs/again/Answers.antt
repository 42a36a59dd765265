use Rattle.std.proofs.Common.{rules}
use Rattle.psplib_mm.specs.Contents.{job_at}
use Rattle.psplib_mm.proofs.Steps.{length-records}
use Rattle.psplib_mm.proofs.jobs.Jobs.again.Goals as goal

pub returns-clause-few : goal.returns-clause-few
returns-clause-few c = rw (length-records job_at c.self.inside.left c.self.inside.cells.now c.self.invariant) (search rules)
