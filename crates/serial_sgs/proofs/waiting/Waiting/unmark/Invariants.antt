use Rattle.std.proofs.Common.{◌≡◌, false, take, set}
use Rattle.serial_sgs.specs.Waiting.{IsLess}
use Rattle.serial_sgs.proofs.waiting.Waiting.unmark.Given as goal

abbrev pub invariant-loop-other : goal.invariant-loop-other
invariant-loop-other l = record {
  flags : l.self.flags ≡ set l.fn.self.flags l.activity false;
  less : IsLess (take l.other-index l.after) l.self.missing l.fn.self.missing;
}
