use Rattle.psplib_mm.proofs.Steps.{length-group_records}
use Rattle.psplib_mm.proofs.groups.Groups.again.Goals as goal

pub returns-clause-few : goal.returns-clause-few
returns-clause-few c =
    let count = length-group_records c.self.inside.resources.renewable c.self.inside.resources.nonrenewable c.self.inside.jobs c.self.inside.cells.now c.self.invariant in
    rw (c.again.ensures.same, count) (rw c.again.ensures.same at c.again.ensures.few)
