use Rattle.mrcpsp.specs.Project.{size}
use Rattle.serial_pass.proofs.BoardLemmas.{fits_room}
use Rattle.serial_pass.proofs.BeginLemmas.{few_modes}
use Rattle.serial_pass.proofs.partial.PartialSchedule.schedule.Goals as goal

pub returns-else-self-clause-room : goal.returns-else-self-clause-room
returns-else-self-clause-room c =
    let s = c.self.inside in
    rw (c.schedule_by.ensures, c.size.ensures.exact, ← c.self.view_is) (fits_room (size s.project) c.deref.result.now)

pub schedule_by-requires-clause-few : goal.schedule_by-requires-clause-few
schedule_by-requires-clause-few c =
    let s = c.self.inside in
    rw c.deref.ensures.value (few_modes s.project s.state.placed.items c.self.invariant.1.early.board)
