use Rattle.std.proofs.Common.{length, sym, ap, ◌∙◌}
use Rattle.psplib_mm.specs.Contents.{job_at}
use Rattle.psplib_mm.proofs.Steps.{length-records}
use Rattle.psplib_mm.proofs.jobs.Jobs.len.Goals as goal

pub returns : goal.returns
returns c = sym (length-records job_at c.self.inside.left c.self.inside.cells.now c.self.invariant) ∙ ap length c.self.view_is
