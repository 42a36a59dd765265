use Rattle.std.proofs.Common.{◌≡◌, length}
use Rattle.mrcpsp.specs.Project.{ProjectData, size}
use Rattle.serial_pass.specs.Eligible.{AreFinishes, HasSums}
use Rattle.serial_pass.proofs.WaitLemmas.{IsTelling}
use Rattle.serial_pass.proofs.waiting.tell_in.Given as goal

abbrev pub invariant-loop-other : goal.invariant-loop-other
invariant-loop-other l = record {
  telling : IsTelling l.after l.other-index l.finish l.point l.fn.waiting l.waiting l.fn.eligible.set l.eligible.set;
  sums : (p : ProjectData) → AreFinishes p l.lfts → HasSums p l.fn.eligible → size p ≡ length l.fn.waiting → HasSums p l.eligible;
}
