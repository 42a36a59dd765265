use Rattle.std.proofs.Common.{◌≡◌, List, length}
use Rattle.psplib_mm.specs.Contents.{Group, groups_at}
use Rattle.psplib_mm.proofs.Steps.{onto}
use Rattle.psplib_mm.proofs.groups.Groups.of.Given as goal

abbrev pub invariant-loop-job : goal.invariant-loop-job
invariant-loop-job l = (done : List Group) × (onto done (groups_at l.resources.renewable l.resources.nonrenewable l.jobs_left l.rest) ≡ groups_at l.resources.renewable l.resources.nonrenewable l.jobs l.cells)

abbrev pub decreases-loop-job : goal.decreases-loop-job
decreases-loop-job l = length l.jobs_left
