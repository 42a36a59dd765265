use Rattle.std.proofs.Common.{◌≡◌, ◌-◌, List}
use Rattle.psplib_mm.specs.Contents.{ModeLine, mode_at, times}
use Rattle.psplib_mm.proofs.Steps.{onto}
use Rattle.psplib_mm.proofs.groups.modes_of.Given as goal

abbrev pub invariant-loop : goal.invariant-loop
invariant-loop l = (done : List ModeLine) × (onto done (times (mode_at l.resources.renewable l.resources.nonrenewable) (l.count - l.counter) l.rest) ≡ times (mode_at l.resources.renewable l.resources.nonrenewable) l.count l.cells)
